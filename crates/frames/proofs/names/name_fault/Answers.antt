-- One line of the table.
use Rattle.std.proofs.Common.{◌≤◌, ◌∙◌, length, arith}
use Rattle.problem.specs.Refusals.{first_of}
use Rattle.frames.specs.Names.{name_fault}
use Rattle.frames.proofs.Refusing.{named_before_is}
use Rattle.frames.proofs.names.name_fault.Goals as goal

pub returns : goal.returns
unfolding name_fault first_of
returns c =
    let inside : c.args.k ≤ length c.args.names.now = omega (arith, c.requires) in
    rw (c.no_variable.ensures, c.contains-again.ensures.value ∙ named_before_is _ _ _ inside) at c.refuse_if.ensures
