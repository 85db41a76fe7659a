-- The four answers, the first that refuses.
use Rattle.std.proofs.Common.{◌≡◌, ◌∙◌, rules}
use Rattle.lines.specs.laws.Format.{format_said}
use Rattle.lines.specs.laws.Faults.{fault_here, fault_after}
use Rattle.lines.proofs.format.format_fault.Goals as goal

pub returns-in_err-refuse_if : goal.returns-in_err-refuse_if
returns-in_err-refuse_if c =
    let same : c.from_residual.result ≡ c.refuse_if.result = search rules in
    rw same (fault_here _ _ _ _ c.refuse_if.ensures c.in_err-refuse_if.was)
    ∙ format_said _ _ _ _ _ _ c.token_at.ensures c.id_wrong.ensures c.token_at-keyword.ensures c.number_of-word.ensures c.is_word.ensures

pub returns-in_err-refuse_if-2 : goal.returns-in_err-refuse_if-2
returns-in_err-refuse_if-2 c =
    let same : c.from_residual-in_err-refuse_if-2.result ≡ c.refuse_if-2.result = search rules in
    fault_after _ _ _ _ _ c.refuse_if.ensures c.in_ok-refuse_if.was
    (rw same (fault_here _ _ _ _ c.refuse_if-2.ensures c.in_err-refuse_if-2.was))
    ∙ format_said _ _ _ _ _ _ c.token_at.ensures c.id_wrong.ensures c.token_at-keyword.ensures c.number_of-word.ensures c.is_word.ensures

pub returns-in_err-sort_fault : goal.returns-in_err-sort_fault
returns-in_err-sort_fault c =
    let same : c.from_residual-in_err-sort_fault.result ≡ c.sort_fault.result = search rules in
    fault_after _ _ _ _ _ c.refuse_if.ensures c.in_ok-refuse_if.was
    (fault_after _ _ _ _ _ c.refuse_if-2.ensures c.in_ok-refuse_if-2.was
    (rw same (fault_here _ _ _ _ (c.sort_fault.ensures ∙ rw (c.makes_of.ensures, c.token_at-2.ensures)) c.in_err-sort_fault.was)))
    ∙ format_said _ _ _ _ _ _ c.token_at.ensures c.id_wrong.ensures c.token_at-keyword.ensures c.number_of-word.ensures c.is_word.ensures

pub returns : goal.returns
returns c =
    fault_after _ _ _ _ _ c.refuse_if.ensures c.in_ok-refuse_if.was
    (fault_after _ _ _ _ _ c.refuse_if-2.ensures c.in_ok-refuse_if-2.was
    (fault_after _ _ _ _ _ (c.sort_fault.ensures ∙ rw (c.makes_of.ensures, c.token_at-2.ensures)) c.in_ok-sort_fault.was
    (c.refuse_if-3.ensures ∙ rw c.arguments_wrong.ensures)))
    ∙ format_said _ _ _ _ _ _ c.token_at.ensures c.id_wrong.ensures c.token_at-keyword.ensures c.number_of-word.ensures c.is_word.ensures
