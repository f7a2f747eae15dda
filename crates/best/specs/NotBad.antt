-- "A block that isn't bad answers its predictor and SAD": of the planes only the source's luma is looked at, for the average. Assumes nothing.
use Rattle.std.specs.Prelude.{◌≡◌, false, List, ℕ}
use Rattle.records.specs.declared.Record.{Record}
use Rattle.window.specs.Windows.{is_bad, is_negative}
use Rattle.choosing.specs.Choosing.{tripled_of, selected}
use Rattle.best.specs.declared.Task.{Task}
use Rattle.best.specs.declared.Best.{Best}
use Rattle.best.specs.Best.{average_at, best_of}

pub not_bad : (task : Task) (given : Record) (luma u v referenceLuma referenceU referenceV : List ℕ) → is_bad given ≡ false →
    ◌≡◌ {A = Best} (best_of task given luma u v referenceLuma referenceU referenceV)
    (record { x = given.predictor.first; y = given.predictor.second; sad = tripled_of (is_negative given) given.sad; average = average_at task given luma })
unfolding best_of selected
not_bad task given luma u v referenceLuma referenceU referenceV e = rw e
