-- The contract of each public function determines its result: any two results that it allows are equal.
use Rattle.std.specs.Prelude.{◌≡◌, Bool, cond, List, ℕ, ◌^◌, leb, Result, Ok, Err, IfOk, IfErr, MatchResult}
use Rattle.std.proofs.Common.{sym, ◌∙◌}
use Rattle.problem.specs.declared.layout.Node.{Node}
use Rattle.problem.specs.declared.fault.Fault.{Fault}
use Rattle.problem.specs.declared.Refusal.{Refusal}
use Rattle.problem.specs.declared.accepted.Problem.{Problem}
use Rattle.problem.specs.Faults.{fault_number}
use Rattle.problem.specs.Layout.{le16, le32, le64, node_count, root_count, node_of, node_at, width_at, root_at}
use Rattle.problem.specs.laws.First.{refused_not}
use Rattle.problem.specs.Refusals.{Checked, Accepted, refusal, ◌then◌, operand_above, header_fault, node_fault, first_below, checked}

-- where the contract is an equation
equal : {A : Type 0} {v r s : A} → r ≡ v → s ≡ v → r ≡ s
equal p q = p ∙ sym q

pub check_determined : (problem : List ℕ) (r s : Checked) → r ≡ checked problem → s ≡ checked problem → r ≡ s
check_determined problem r s = equal

same_refusal : {a b : Refusal} → ◌≡◌ {A = Checked} (Err a) (Err b) → a ≡ b
same_refusal h = cc

-- of `Problem::parse`: two answers are views of the same bytes, or the same refusal
pub parse_determined :
    (problem : List ℕ) (r s : Result Problem Refusal)
    → IfOk r (λ p. p.bytes.now ≡ problem)
    → IfOk s (λ p. p.bytes.now ≡ problem)
    → IfErr r (λ e. checked problem ≡ refusal e.number e.place)
    → IfErr s (λ e. checked problem ≡ refusal e.number e.place)
    → MatchResult r (λ p. MatchResult s (λ q. p.bytes.now ≡ q.bytes.now) (λ _. ⊥)) (λ e. MatchResult s (λ _. ⊥) (λ f. e ≡ f))
parse_determined problem (Ok p) (Ok q) e f g h = e ∙ sym f
parse_determined problem (Ok p) (Err b) e f g h = refused_not (sym h ∙ (rw e at p.accepted))
parse_determined problem (Err a) (Ok q) e f g h = refused_not (sym g ∙ (rw f at q.accepted))
parse_determined problem (Err a) (Err b) e f g h = same_refusal (sym g ∙ h)

pub line_determined :
    (before : Checked) (number : ℕ) (given : Bool) (place : ℕ) (r s : Checked)
    → r ≡ (before then cond given (refusal number place) Accepted)
    → s ≡ (before then cond given (refusal number place) Accepted)
    → r ≡ s
line_determined before number given place r s = equal

pub refuse_if_determined :
    (given : Bool) (f : Fault) (place : ℕ) (r s : Checked)
    → r ≡ cond given (refusal (fault_number f) place) Accepted
    → s ≡ cond given (refusal (fault_number f) place) Accepted
    → r ≡ s
refuse_if_determined given f place r s = equal

pub first_refusal_determined : (f : ℕ → Checked) (count : ℕ) (r s : Checked) → r ≡ first_below f count → s ≡ first_below f count → r ≡ s
first_refusal_determined f count r s = equal

pub number_determined : (f : Fault) (r s : ℕ) → r ≡ fault_number f → s ≡ fault_number f → r ≡ s
number_determined f r s = equal

pub at_determined : (f : Fault) (place : ℕ) (r s : Refusal) → r ≡ record { number = fault_number f; place = place } → s ≡ record { number = fault_number f; place = place } → r ≡ s
at_determined f place r s = equal

pub header_fault_determined : (problem : List ℕ) (r s : Checked) → r ≡ header_fault problem → s ≡ header_fault problem → r ≡ s
header_fault_determined problem r s = equal

pub node_fault_determined : (problem : List ℕ) (i : ℕ) (r s : Checked) → r ≡ node_fault problem i → s ≡ node_fault problem i → r ≡ s
node_fault_determined problem i r s = equal

pub operand_above_determined :
    (n : Node) (operands i : ℕ) (r s : Bool) → r ≡ operand_above n operands i → s ≡ operand_above n operands i → r ≡ s
operand_above_determined n operands i r s = equal

pub over_width_determined : (x w : ℕ) (r s : Bool) → r ≡ leb (2 ^ w) x → s ≡ leb (2 ^ w) x → r ≡ s
over_width_determined x w r s = equal

-- ---- layout
pub u16_at_determined : (b : List ℕ) (p r s : ℕ) → r ≡ le16 b p → s ≡ le16 b p → r ≡ s
u16_at_determined b p r s = equal

pub u32_at_determined : (b : List ℕ) (p r s : ℕ) → r ≡ le32 b p → s ≡ le32 b p → r ≡ s
u32_at_determined b p r s = equal

pub u64_at_determined : (b : List ℕ) (p r s : ℕ) → r ≡ le64 b p → s ≡ le64 b p → r ≡ s
u64_at_determined b p r s = equal

pub node_count_determined : (problem : List ℕ) (r s : ℕ) → r ≡ node_count problem → s ≡ node_count problem → r ≡ s
node_count_determined problem r s = equal

pub root_count_determined : (problem : List ℕ) (r s : ℕ) → r ≡ root_count problem → s ≡ root_count problem → r ≡ s
root_count_determined problem r s = equal

pub read_node_determined : (part : List ℕ) (r s : Node) → r ≡ node_of part → s ≡ node_of part → r ≡ s
read_node_determined part r s = equal

pub node_at_determined : (problem : List ℕ) (i : ℕ) (r s : Node) → r ≡ node_at problem i → s ≡ node_at problem i → r ≡ s
node_at_determined problem i r s = equal

pub width_at_determined : (problem : List ℕ) (i r s : ℕ) → r ≡ width_at problem i → s ≡ width_at problem i → r ≡ s
width_at_determined problem i r s = equal

pub root_at_determined : (problem : List ℕ) (j r s : ℕ) → r ≡ root_at problem j → s ≡ root_at problem j → r ≡ s
root_at_determined problem j r s = equal
