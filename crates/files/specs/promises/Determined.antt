-- The contract of each public function determines its result and every lent place: any two outcomes that it allows are equal.
use Rattle.std.specs.Prelude.{◌≡◌, List, ◌++◌, ℕ, length, take, drop}
use Rattle.std.proofs.Common.{sym, ap, ap₂, ◌∙◌, take-append-drop}
use Rattle.search.specs.promises.Determined.{called_unique}
use Rattle.files.specs.Laid.{Laid}
use Rattle.files.specs.Words.{file_problem, words_of, budget_of, tape_of}
use Rattle.files.specs.Text.{printed}
use Rattle.files.specs.Told.{Output, Prints}
use Rattle.files.specs.laws.Enough.{read_itself}
use Rattle.files.specs.laws.Laid.{laid_unique}

-- where the contract is an equation
equal : {A : Type 0} {v r s : A} → r ≡ v → s ≡ v → r ≡ s
equal p q = p ∙ sym q

pub words_of_determined :
    (bytes before a a' : List ℕ) (r r' : ℕ)
    → Laid (words_of bytes) 0 before a r
    → Laid (words_of bytes) 0 before a' r'
    → (a ≡ a') × (r ≡ r')
words_of_determined bytes before a a' r r' = laid_unique

pub budget_of_determined : (words : List ℕ) (r s : ℕ) → r ≡ budget_of words → s ≡ budget_of words → r ≡ s
budget_of_determined words r s = equal

pub tape_of_determined : (words r s : List ℕ) → r ≡ tape_of words → s ≡ tape_of words → r ≡ s
tape_of_determined words r s = equal

-- of the same files
one_output : {P S T before a a' : List ℕ} {r r' : ℕ} → Output P S T before a r → Output P S T before a' r' → (a ≡ a') × (r ≡ r')
one_output {P} {before = before} {a = a} {a' = a'} {r = r} {r' = r'} t t' =
    let same = called_unique t.called t'.called in
    let texts = ap₂ (printed (file_problem P)) same.values same.answers in
    let counts : r ≡ r' = t.count ∙ ap length texts ∙ sym t'.count in
    let first : take r a ≡ take r' a' = t.text ∙ texts ∙ sym t'.text in
    let others : drop r a ≡ drop r' a' = t.rest ∙ ap (λ (k : ℕ). drop k before) counts ∙ sym t'.rest in
    (sym (take-append-drop r a) ∙ ap₂ ◌++◌ first others ∙ take-append-drop r' a', counts)

pub output_determined :
    (problem : List ℕ) (p : ℕ) (start : List ℕ) (s : ℕ) (tape : List ℕ) (t : ℕ) (before a a' : List ℕ) (r r' : ℕ)
    → Prints problem p start s tape t before a r
    → Prints problem p start s tape t before a' r'
    → (a ≡ a') × (r ≡ r')
output_determined problem p start s tape t before a a' r r' x y =
    let P = read_itself problem p in
    let S = read_itself start s in
    let T = read_itself tape t in one_output (x.of_files _ _ _ P S T) (y.of_files _ _ _ P S T)
