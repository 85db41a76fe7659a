-- Laws of the table of kinds that the C interface goes by: what a width rule looks at, and which kind has a number beside its operands.
use Rattle.std.specs.Prelude.{◌≡◌, ◌||◌, ℕ, ◌+◌, ◌≤◌, ◌<◌, leb, eqb}
use Rattle.std.proofs.Common.{sym, ◌∙◌, arith, eqb→eq, leb→le}
use Rattle.std.proofs.Math.Decide.{dec_le}
use Rattle.words.specs.laws.Cases.{every_at}
use Rattle.operators.specs.declared.table.Rule.{Rule}
use Rattle.operators.specs.declared.table.Rule.TheVariants.{Free, One, Both, Equal, Choice, Sum, Part, Longer, Narrow}
use Rattle.operators.specs.Table.{kinds, kind_count, kind_of, shape, shape_of, RuleMet}
use Rattle.operators.specs.laws.Table.{or_right}
use Rattle.operators.specs.laws.Meaning.{takes, takes_is}
use Rattle.picking.specs.declared.spot.Three.{Three}
use Rattle.picking.specs.Spot.{at}
use Rattle.picking.specs.laws.Positions.{every_kind}

-- how many of the fields a, b, c the kinds of a rule use
abbrev fields_of : Rule → ℕ
fields_of Free = 0
fields_of One = 1
fields_of Both = 2
fields_of Equal = 2
fields_of Choice = 3
fields_of Sum = 2
fields_of Part = 2
fields_of Longer = 1
fields_of Narrow = 2

fields_is : (k : ℕ) → fields_of (shape_of k).rule ≡ (shape_of k).fields
fields_is k = eqb→eq _ _ (every_kind (λ o. eqb (fields_of (shape o).rule) (shape o).fields) kinds tt k)

pub operands_fields : (k : ℕ) → (shape_of k).operands ≤ (shape_of k).fields
operands_fields k = leb→le _ _ (every_kind (λ o. leb (shape o).operands (shape o).fields) kinds tt k)

pub one_operand : (k : ℕ) → (shape_of k).operands < (shape_of k).fields → (shape_of k).operands ≤ 1
one_operand k h =
    leb→le _ _
    (or_right (leb (shape_of k).fields (shape_of k).operands) (leb (shape_of k).operands 1)
    (every_kind (λ o. leb (shape o).fields (shape o).operands || leb (shape o).operands 1) kinds tt k)
    (λ t. let m : (shape_of k).fields ≤ (shape_of k).operands = leb→le (shape_of k).fields (shape_of k).operands t in omega arith))

-- the widths of as many operands as its kinds have, and field b where they have a field more
rule_else :
    (r : Rule) (w b c : ℕ) (x y : Three)
    → ((j : ℕ) → j < takes r → at x j ≡ at y j)
    → (takes r < fields_of r → b ≡ c)
    → RuleMet r w x.a x.b x.c b
    → RuleMet r w y.a y.b y.c c
rule_else Free w b c x y e f h = h
rule_else One w b c x y e f h = sym (e 0 (omega arith)) ∙ h
rule_else Both w b c x y e f h = (sym (e 0 (omega arith)) ∙ h.0, sym (e 1 (omega arith)) ∙ h.1)
rule_else Equal w b c x y e f h = (sym (e 0 (omega arith)) ∙ h.0 ∙ e 1 (omega arith), h.1)
rule_else Choice w b c x y e f h = (sym (e 0 (omega arith)) ∙ h.0, sym (e 1 (omega arith)) ∙ h.1, sym (e 2 (omega arith)) ∙ h.2)
rule_else Sum w b c x y e f h = omega (arith, e 0 (omega arith), e 1 (omega arith))
rule_else Part w b c x y e f h = omega (arith, e 0 (omega arith), f (omega arith))
rule_else Longer w b c x y e f h = omega (arith, e 0 (omega arith))
rule_else Narrow w b c x y e f h = (sym (e 0 (omega arith)) ∙ h.0, sym (e 1 (omega arith)) ∙ h.1, h.2)

pub rule_of_lem :
    (k w b c : ℕ) (x y : Three)
    → ((j : ℕ) → j < (shape_of k).operands → at x j ≡ at y j)
    → ((shape_of k).operands < (shape_of k).fields → b ≡ c)
    → RuleMet (shape_of k).rule w x.a x.b x.c b
    → RuleMet (shape_of k).rule w y.a y.b y.c c
rule_of_lem k w b c x y e f h =
    rule_else (shape_of k).rule w b c x y (λ j l. e j (rw (takes_is (kind_of k)) at l))
    (λ l. f (rw (takes_is (kind_of k), fields_is k) at l)) h

-- an extract alone has a lowest bit, which is one of its operand's
extract_only : (k : ℕ) → k < kind_count → (shape_of k).operands < (shape_of k).fields → k ≡ 13
extract_only k l h =
    eqb→eq k 13
    (or_right (leb (shape_of k).fields (shape_of k).operands) (eqb k 13)
    (every_at kind_count (λ x. leb (shape_of x).fields (shape_of x).operands || eqb x 13) tt k l) (λ t. let m : (shape_of k).fields ≤ (shape_of k).operands = leb→le (shape_of k).fields (shape_of k).operands t in omega arith))

pub low_law :
    (k w wa wb wc b : ℕ)
    → k < kind_count
    → wa ≤ 64
    → RuleMet (shape_of k).rule w wa wb wc b
    → ((shape_of k).fields ≤ (shape_of k).operands → b ≡ 0)
    → b < 65536
low_law k w wa wb wc b l n r z =
    elim (dec_le (shape_of k).fields (shape_of k).operands) [
      | yes h ↦ omega (arith, z h)
      | no h ↦ let m : b + w ≤ wa = rw (extract_only k l (omega arith)) at r in omega arith
    ]
