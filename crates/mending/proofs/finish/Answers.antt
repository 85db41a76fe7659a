-- Refused, or written.
use Rattle.std.proofs.Common.{◌≡◌, rules, sym, ◌∙◌, arith}
use Rattle.mending.specs.laws.Accepted.{written}
use Rattle.mending.proofs.Turns.{ids_length}
use Rattle.mending.proofs.Ends.{finish_refused, finish_written}
use Rattle.mending.proofs.finish.Goals as goal

pub returns-in_err-fault_after : goal.returns-in_err-fault_after
returns-in_err-fault_after c =
    let e : c.from_residual.result ≡ c.fault_after.result = search rules in
    rw e (finish_refused _ _ _ _ _ c.fault_after.ensures c.in_err-fault_after.was)

pub put_file-requires : goal.put_file-requires
put_file-requires c =
    let w = written _ _ _ (sym c.fault_after.ensures ∙ c.in_ok-fault_after.was) in record { all = w.all; enough = w.enough }

pub put_map-requires : goal.put_map-requires
put_map-requires c =
    let w = written _ _ _ (sym c.fault_after.ensures ∙ c.in_ok-fault_after.was) in
    omega (arith, ids_length _ _ c.args.order.now.placed.olds_are, w.lines)

pub returns : goal.returns
returns c =
    let q = c.args.order.now in
    finish_written _ _ _ _ _ _ q.header q.placed.olds_are (sym c.fault_after.ensures ∙ c.in_ok-fault_after.was)
    c.put_file.ensures c.put_map.ensures
