-- Each call has a quarter of the number.
use Rattle.whole.proofs.+root.Given as goal

abbrev pub decreases-root : goal.decreases-root
decreases-root l = l.n
