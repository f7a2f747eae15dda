-- An accepted file is printed, with as many lines as its head says. Assumes nothing.
use Rattle.std.proofs.Common.{◌≡◌, List, ℕ, Ok, sym, ap, arith, rules, w32, SFits, to_z-of_z}
use Rattle.plan_file.specs.declared.Head.{Head}
use Rattle.plan_file.specs.PlanFile.{trailer_of, head_of, plan_of}
use Rattle.plan_file.specs.Served.{served, accepted_says}
use Rattle.plan_report.specs.Accepted.{Accepted}
use Rattle.plan_report.proofs.report.Goals as goal

accepted : (file : List ℕ) (head : Head) → Ok head ≡ plan_of file → Accepted file
accepted file head e = let says = accepted_says file head (sym e) in record { holds = says.0; narrow = says.1 }

-- the count that is printed is the trailer's
count_is : (file : List ℕ) (head : Head) → Ok head ≡ plan_of file → head.count ≡ (trailer_of file).count
unfolding head_of
count_is file head e = let says = accepted_says file head (sym e) in sym (ap (λ (h : Head). h.count) says.2)

pub print_head-requires : goal.print_head-requires
print_head-requires c = accepted c.args.file.now c.in_ok-head.head c.in_ok-head.ensures

pub overflow_cast-head : goal.overflow_cast-head
overflow_cast-head c =
    let file = c.args.file.now in
    let head = c.in_ok-head.head in
    let f : SFits w32 head.count = search rules in
    let k = served file (accepted file head c.in_ok-head.ensures).holds in
    rw (to_z-of_z f, count_is file head c.in_ok-head.ensures) (k.natural, omega (arith, k.counted, k.most))

pub print_lines-requires : goal.print_lines-requires
print_lines-requires c =
    let file = c.args.file.now in
    let head = c.in_ok-head.head in
    let f : SFits w32 head.count = search rules in
    (accepted file head c.in_ok-head.ensures, rw (to_z-of_z f, count_is file head c.in_ok-head.ensures) (omega arith))
