-- The contract of each public function determines its result: any two results that it allows are equal.
use Rattle.std.specs.Prelude.{◌≡◌, Bool, List, ℕ, take, Result}
use Rattle.std.proofs.Common.{sym, ◌∙◌}
use Rattle.texts.specs.Numbers.{value_in}
use Rattle.lines.specs.declared.table.Makes.{Makes}
use Rattle.lines.specs.declared.table.Row.{Row}
use Rattle.lines.specs.declared.fault.Fault.{Fault}
use Rattle.lines.specs.Faults.{fault_number, told, given_by}
use Rattle.lines.specs.Lines.{Token, lines, tokens, token}
use Rattle.lines.specs.Words.{number_of, word_of, shape}
use Rattle.lines.specs.Format.{signed, unsigned, ref_start, format_fault}
use Rattle.lines.specs.inner.Places.{Stored}
use Rattle.lines.specs.laws.Faults.{told_one}
use Rattle.lines.specs.inner.Told.{find_line, small, width_told, alias_of}

one : {A : Type 0} {v r s : A} → r ≡ v → s ≡ v → r ≡ s
one p q = p ∙ sym q

pub mark_tokens_determined : (l marks r s : List ℕ) → Stored l marks r → Stored l marks s → r ≡ s
mark_tokens_determined l marks r s R S = one R.exactly S.exactly

pub token_at_determined : (l : List ℕ) (k : ℕ) (r s : Token) → r ≡ token (tokens l) k → s ≡ token (tokens l) k → r ≡ s
token_at_determined l k r s = one

pub token_walk_determined : (l : List ℕ) (k : ℕ) (r s : Token) → r ≡ token (tokens l) k → s ≡ token (tokens l) k → r ≡ s
token_walk_determined l k r s = one

pub number_of_determined : (t : Token) (r s : ℕ) → r ≡ number_of t → s ≡ number_of t → r ≡ s
number_of_determined t r s = one

pub makes_of_determined : (word : ℕ) (r s : Makes) → r ≡ (shape (word_of word)).makes → s ≡ (shape (word_of word)).makes → r ≡ s
makes_of_determined word r s = one

pub refs_of_determined : (word r s : ℕ) → r ≡ (shape (word_of word)).refs → s ≡ (shape (word_of word)).refs → r ≡ s
refs_of_determined word r s = one

pub numbers_of_determined : (word r s : ℕ) → r ≡ (shape (word_of word)).numbers → s ≡ (shape (word_of word)).numbers → r ≡ s
numbers_of_determined word r s = one

pub base_of_determined : (word r s : ℕ) → r ≡ (shape (word_of word)).base → s ≡ (shape (word_of word)).base → r ≡ s
base_of_determined word r s = one

pub row_of_determined : (word : ℕ) (r s : Row) → r ≡ shape (word_of word) → s ≡ shape (word_of word) → r ≡ s
row_of_determined word r s = one

pub is_signed_determined : (t : Token) (r s : Bool) → r ≡ signed t → s ≡ signed t → r ≡ s
is_signed_determined t r s = one

pub unsigned_of_determined : (t r s : Token) → r ≡ unsigned t → s ≡ unsigned t → r ≡ s
unsigned_of_determined t r s = one

pub ref_start_determined : (makes : Makes) (r s : ℕ) → r ≡ ref_start makes → s ≡ ref_start makes → r ≡ s
ref_start_determined makes r s = one

pub format_fault_determined : (l : List ℕ) (r s : ℕ) → r ≡ format_fault (tokens l) → s ≡ format_fault (tokens l) → r ≡ s
format_fault_determined l r s = one

pub format_fault_answered : (l : List ℕ) (r s : Result Unit Fault) → told r ≡ format_fault (tokens l) → told s ≡ format_fault (tokens l) → r ≡ s
format_fault_answered l r s p q = told_one r s (one p q)

pub refuse_if_determined : (given : Bool) (f : Fault) (r s : Result Unit Fault) → told r ≡ given_by f given → told s ≡ given_by f given → r ≡ s
refuse_if_determined given f r s p q = told_one r s (one p q)

pub number_of_fault_determined : (f : Fault) (r s : ℕ) → r ≡ fault_number f → s ≡ fault_number f → r ≡ s
number_of_fault_determined f r s = one

pub small_of_determined : (t : Token) (r s : ℕ) → r ≡ small (value_in 10 t) → s ≡ small (value_in 10 t) → r ≡ s
small_of_determined t r s = one

pub line_of_determined : (text : List ℕ) (passed id : ℕ) (r s : List ℕ) → r ≡ find_line id (take passed (lines text))
    → s ≡ find_line id (take passed (lines text))
    → r ≡ s
line_of_determined text passed id r s = one

pub width_told_determined : (l : List ℕ) (r s : ℕ) → r ≡ width_told (tokens l) → s ≡ width_told (tokens l) → r ≡ s
width_told_determined l r s = one

pub alias_of_determined : (l : List ℕ) (r s : ℕ) → r ≡ alias_of (tokens l) → s ≡ alias_of (tokens l) → r ≡ s
alias_of_determined l r s = one
