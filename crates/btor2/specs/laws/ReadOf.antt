-- That a line read place by place is read as it says.
use Rattle.std.specs.Prelude.{◌≡◌, refl, Bool, true, false, cond, List, ℕ, ◌+◌, ◌^◌, ltb}
use Rattle.std.proofs.Common.{sym, ◌∙◌, ltb-false}
use Rattle.texts.specs.Numbers.{value_in}
use Rattle.lines.specs.declared.table.Makes.{Makes}
use Rattle.spelling.specs.declared.constants.Literal.{Literal}
use Rattle.spelling.specs.declared.line.Operands.{Operands}
use Rattle.spelling.specs.declared.line.Line.{Line}
use Rattle.lines.specs.Lines.{Token, token}
use Rattle.lines.specs.Words.{number_of, word_of, shape}
use Rattle.lines.specs.Format.{ref_start, sort_named, item_of, item}
use Rattle.btor2.specs.Conversion.{State, at}
use Rattle.lines.specs.inner.Told.{id_of, small}
use Rattle.btor2.specs.inner.Kept.{Sorted}
use Rattle.spelling.specs.inner.Spelled.{short}
use Rattle.btor2.specs.inner.Read.{Operated, Filled, Read}
use Rattle.spelling.specs.inner.Constants.{Literally}

-- an id that 64 bits do not hold names no sort, as 0 does
sort_small : {σ : State} {ls : List (List ℕ)} → Sorted σ ls → (id : ℕ) → at (small id) σ.sorts ≡ at id σ.sorts
unfolding small
sort_small {σ} S id = by (ltb id (2 ^ 64)) refl
  where
    by : (b : Bool) → ltb id (2 ^ 64) ≡ b → at (cond b id 0) σ.sorts ≡ at id σ.sorts
    by true e = refl
    by false e = S.none ∙ sym (S.wide id (ltb-false id (2 ^ 64) e))

pub filled_told :
    (ts : List Token) (t₀ t₃ t₄ t₅ : Token) (k middle numbers id w f g : ℕ) (o : Operands) (v : Literal)
    → t₃ ≡ token ts middle
    → f ≡ short (value_in 10 t₃)
    → t₄ ≡ token ts (middle + 1)
    → g ≡ short (value_in 10 t₄)
    → numbers ≡ (shape (word_of k)).numbers
    → t₅ ≡ token ts (middle + numbers)
    → Literally k w t₅ v
    → t₀ ≡ token ts 0
    → id ≡ small (value_in 10 t₀)
    → Filled ts k middle w o (record { word = k; id = id; width = w; ops = o; first = f; second = g; literal = v })
unfolding id_of
filled_told ts t₀ t₃ t₄ t₅ k middle numbers id w f g o v e₃ ef e₄ eg en e₅ L e₀ ei =
    record {
      word_is = refl;
      id_is = ei ∙ rw e₀;
      width_is = refl;
      ops_are = refl;
      first_is = ef ∙ rw e₃;
      second_is = eg ∙ rw e₄;
      literal_is = rw (e₅, en) at L;
    }

pub read_told :
    {σ : State} {ls : List (List ℕ)} → Sorted σ ls
    → (ts : List Token) (t₁ t₂ : Token) (k place refs s w : ℕ) (m : Makes) (o : Operands) (x : Line)
    → t₁ ≡ token ts 1
    → k ≡ number_of t₁
    → m ≡ (shape (word_of k)).makes
    → place ≡ ref_start m
    → refs ≡ (shape (word_of k)).refs
    → t₂ ≡ token ts 2
    → s ≡ small (sort_named m t₂)
    → w ≡ at s σ.sorts
    → Operated σ ts place refs o
    → Filled ts k (place + refs) w o x
    → Read σ ts x
unfolding item item_of
read_told S ts t₁ t₂ k place refs s w m o x e₁ ek em ep er e₂ es ew O F =
    record {
      word_is = F.word_is ∙ ek ∙ rw e₁;
      id_is = F.id_is;
      width_is = F.width_is ∙ ew ∙ rw es (sort_small S (sort_named m t₂) ∙ rw (em, ek, e₁, e₂));
      ops_are = rw (F.word_is, F.ops_are) (rw (ep, er, em) at O);
      first_is = F.first_is ∙ rw (ep, er, em, ek, e₁);
      second_is = F.second_is ∙ rw (ep, er, em, ek, e₁);
      literal_is = rw (F.word_is, F.width_is) (rw (ep, er, em) at F.literal_is);
    }
