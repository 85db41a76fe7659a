-- What a line that passes has: no refusal is given.
use Rattle.std.specs.Prelude.{◌≡◌, refl, Bool, true, false, not, ◌&&◌, ◌||◌, List, ◌∷◌, ℕ, ◌^◌, ◌≤◌, ◌<◌, eqb, ltb, leb, length}
use Rattle.std.proofs.Common.{sym, ap, arith, eq-eqb, eqb-true, ltb-false, leb-false}
use Rattle.std.proofs.lemmas.Bool.{false≢true, not-false}
use Rattle.texts.specs.Numbers.{value_in}
use Rattle.lines.specs.Lines.{Token, token}
use Rattle.lines.specs.Words.{number_of, word_of, shape}
use Rattle.lines.specs.Format.{◌or_else◌, given, is_id, is_word, is_constant, id_wrong, refs_bad, numbers_bad, constant_bad, symbol_bad, arguments_wrong, format_fault, ref_place, number_place, constant_place, item}
use Rattle.spelling.specs.Nodes.{fits}
use Rattle.btor2.specs.Conversion.{State, at, operands, width_of, any_unknown, sort_unknown, id_fault, misfit, after, too_much, size, item_fault, line_fault}
use Rattle.lines.specs.inner.Told.{id_of}

-- ---- numbers that are not given

pub or_both : (a b : Bool) → (a || b) ≡ false → (a ≡ false) × (b ≡ false)
or_both true b e = absurd (false≢true (sym e))
or_both false b e = (refl, e)

pub else_first : (m n : ℕ) → (m or_else n) ≡ 0 → m ≡ 0
unfolding ◌or_else◌
else_first m n e = by (eqb m 0) refl
  where
    by : (b : Bool) → eqb m 0 ≡ b → m ≡ 0
    by true q = eqb-true m 0 q
    by false q = rw q at e

pub else_second : (m n : ℕ) → (m or_else n) ≡ 0 → n ≡ 0
unfolding ◌or_else◌
else_second m n e = let z = eq-eqb m 0 (else_first m n e) in rw z at e

pub not_given : (k : ℕ) (t : Bool) → 0 < k → given k t ≡ 0 → t ≡ false
not_given k true h e = absurd (omega arith)
not_given k false h e = refl

-- ---- the format

pub record Formed (ts : List Token) : Type 0 where
  pub small_id : id_of ts < 2 ^ 64
  pub listed : number_of (token ts 1) < 28
  pub constant :
      (eqb (shape (word_of (number_of (token ts 1)))).base 0 ≡ false)
      → is_constant (shape (word_of (number_of (token ts 1)))).base (token ts (constant_place (shape (word_of (number_of (token ts 1)))))) ≡ true

and_right : (a b : Bool) → a ≡ true → (a && b) ≡ false → b ≡ false
and_right true b e f = f
and_right false b e f = absurd (false≢true e)

third : (a b c d : Bool) → (((a || b) || c) || d) ≡ false → c ≡ false
third a b c d e = (or_both (a || b) c (or_both ((a || b) || c) d e).0).1

pub formed : (ts : List Token) → format_fault ts ≡ 0 → Formed ts
unfolding format_fault id_wrong arguments_wrong constant_bad id_of
formed ts e =
    let k = number_of (token ts 1) in
    let r = shape (word_of k) in
    let a = not_given 1 (id_wrong (token ts 0) || not (is_word (token ts 1))) (omega arith) (else_first _ _ e) in
    let b = else_second _ _ e in
    let c = not_given 2 (leb 28 k) (omega arith) (else_first _ _ b) in
    let d = not_given 1 (arguments_wrong r ts) (omega arith) (else_second _ _ (else_second _ _ b)) in
    let g = (or_both (id_wrong (token ts 0)) (not (is_word (token ts 1))) a).0 in
    let f = (or_both (not (is_id (token ts 0))) (leb (2 ^ 64) (value_in 10 (token ts 0))) g).1 in
    let h =
    third (refs_bad r.refs (ref_place r) ts) (numbers_bad r.numbers (number_place r) ts) (constant_bad r.base (constant_place r) ts)
    (symbol_bad r.base (constant_place r) ts) d in
    record {
      small_id = leb-false (2 ^ 64) (value_in 10 (token ts 0)) f;
      listed = leb-false 28 k c;
      constant = λ n. not-false _ (and_right (not (eqb r.base 0)) (not (is_constant r.base (token ts (constant_place r)))) (ap not n) h);
    }

-- ---- all refusals

pub record Passes (room : ℕ) (σ : State) (ts : List Token) : Type 0 where
  pub form : Formed ts
  pub increasing : σ.last < (item ts).id
  pub sort_known : sort_unknown (item ts).makes (item ts).sort σ.sorts ≡ false
  pub refs_known : any_unknown (item ts).refs σ.named ≡ false
  pub fitting :
      fits (item ts).word (at (item ts).sort σ.sorts) (width_of (operands σ (item ts).refs) 0)
      (width_of (operands σ (item ts).refs) 1) (width_of (operands σ (item ts).refs) 2) (item ts).first (item ts).second (item ts).constant
      ≡ true
  pub nodes_few : length (after σ (item ts)).nodes ≤ 1024
  pub roots_few : length (after σ (item ts)).roots ≤ 256
  pub enough : size (after σ (item ts)) ≤ room

pub passes : (room : ℕ) (σ : State) (t : Token) (ts : List Token) → line_fault room σ (t ∷ ts) ≡ 0 → Passes room σ (t ∷ ts)
unfolding line_fault item_fault id_fault misfit too_much
passes room σ t ts e =
    let i = item (t ∷ ts) in
    let os = operands σ i.refs in
    let f = else_first _ _ e in
    let g = else_second _ _ e in
    let a =
    or_both (leb i.id σ.last || sort_unknown i.makes i.sort σ.sorts) (any_unknown i.refs σ.named)
    (not_given 3 (id_fault σ i) (omega arith) (else_first _ _ g)) in
    let b = or_both (leb i.id σ.last) (sort_unknown i.makes i.sort σ.sorts) a.0 in
    let h = else_second _ _ g in
    let c =
    not-false
    (fits i.word (at i.sort σ.sorts) (width_of os 0) (width_of os 1) (width_of os 2) i.first i.second i.constant)
    (not_given 4 (misfit σ i) (omega arith) (else_first _ _ h)) in
    let τ = after σ i in
    let m =
    or_both (ltb 1024 (length τ.nodes) || ltb 256 (length τ.roots)) (ltb room (size τ))
    (not_given 5 (too_much room τ) (omega arith) (else_second _ _ h)) in
    let d = or_both (ltb 1024 (length τ.nodes)) (ltb 256 (length τ.roots)) m.0 in
    record {
      form = formed (t ∷ ts) f;
      increasing = leb-false i.id σ.last b.0;
      sort_known = b.1;
      refs_known = a.1;
      fitting = c;
      nodes_few = ltb-false 1024 _ d.0;
      roots_few = ltb-false 256 _ d.1;
      enough = ltb-false room (size τ) m.1;
    }
