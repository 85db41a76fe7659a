-- What is no word, then another word than `bitvec`.
use Rattle.std.proofs.Common.{◌≡◌, ◌∙◌, rules}
use Rattle.texts.specs.Runs.{ascii}
use Rattle.lines.specs.Format.{bitvec_fault}
use Rattle.lines.specs.laws.Faults.{fault_here, fault_after}
use Rattle.lines.proofs.format.bitvec_fault.Goals as goal

pub returns-in_err-refuse_if : goal.returns-in_err-refuse_if
unfolding bitvec_fault
returns-in_err-refuse_if c =
    let same : c.from_residual.result ≡ c.refuse_if.result = search rules in
    rw same (fault_here _ _ _ _ (c.refuse_if.ensures ∙ rw c.is_word.ensures) c.in_err-refuse_if.was)

pub returns : goal.returns
unfolding bitvec_fault ascii
returns c = fault_after _ _ _ _ _ (c.refuse_if.ensures ∙ rw c.is_word.ensures) c.in_ok-refuse_if.was (c.refuse_if-2.ensures ∙ rw c.same.ensures)
