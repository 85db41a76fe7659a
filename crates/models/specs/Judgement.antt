-- The judgement: refusals in the request's order, each tried over the whole text before the next; then the roots.
use Rattle.std.specs.Prelude.{Err as Refused, Ok, Bool, true, cond, not, ◌&&◌, ◌||◌, List, [], ◌∷◌, ◌++◌, map, ℕ, zero, suc, eqb, length, get_or, set}
use Rattle.problem.specs.Layout.{node_count, root_count, node_at, width_at, root_at}
use Rattle.problem.specs.Refusals.{Checked, bit_outside, checked}
use Rattle.nodes.specs.Problem.{problem, zeros, evaluate}
use Rattle.models.specs.declared.Judged.{Judged}
use Rattle.models.specs.declared.Judged.TheVariants.{Yes, No}
use Rattle.models.specs.declared.Judged.TheVariants as said
use Rattle.entries.specs.Names.{names, position, is_again, some}
use Rattle.entries.specs.Entries.{Entry, no_entry, misfits, is_model, entries}

-- a refusal with its number and place where a test is given; Yes stands for nothing said against the model so far
unfoldable pub refuse : ℕ → ℕ → Bool → Judged
refuse number place test = cond test (said.Refused (record { number = number; place = place })) Yes

-- what is said first
infixr 20 ◌next◌
unfoldable pub ◌next◌ : Judged → Judged → Judged
◌next◌ Yes y = y
◌next◌ (No j) y = No j
◌next◌ (said.Refused f) y = said.Refused f

-- what f 0, f 1, .., f (n - 1) say first
unfoldable pub first_said : (ℕ → Judged) → ℕ → Judged
first_said f zero = Yes
first_said f (suc n) = first_said f n next f n

-- the problem's own refusals: the answer of the problem check (document 01's 1 to 13, and what 02 added to it)
unfoldable pub of_problem : Checked → Judged
of_problem (Ok tt) = Yes
of_problem (Refused r) = refuse r.number r.place true

-- the ids of the variables below n, ascending
unfoldable pub variables_below : List ℕ → ℕ → List ℕ
variables_below s zero = []
variables_below s (suc n) = variables_below s n ++ cond (eqb (node_at s n).kind 0) (n ∷ []) []

unfoldable pub variables : List ℕ → List ℕ
variables s = variables_below s (node_count s)

-- 30 "the list has too few or many names, or one twice"
unfoldable pub list_wrong : List ℕ → List (List ℕ) → Bool
list_wrong vs ns = not (eqb (length ns) (length vs)) || some (is_again ns) (length ns)

abbrev pub names_of : List Entry → List (List ℕ)
names_of es = map (λ (e : Entry). e.name) es

-- of a problem s, the names ns of its variables, and the entries es
module _ (s : List ℕ) (ns : List (List ℕ)) (es : List Entry) where
  -- the variable that entry k is of: its position among the variables, their number where there is none
  abbrev pub owner_at : ℕ → ℕ
  owner_at k = position (get_or es k no_entry).name ns

  -- 32 "unknown name"
  unfoldable pub unknown_at : ℕ → Judged
  unknown_at k = refuse 32 k (eqb (owner_at k) (length ns))

  -- 33 "a name that an earlier entry gave"
  unfoldable pub again_at : ℕ → Judged
  again_at k = refuse 33 k (is_again (names_of es) k)

  -- 34, of the variable that entry k is of
  unfoldable pub misfit_at : ℕ → Judged
  misfit_at k = refuse 34 k (misfits (width_at s (get_or (variables s) (owner_at k) 0)) (get_or es k no_entry))

  -- the entry of variable k: the number of entries where it has none
  abbrev pub entry_for : ℕ → ℕ
  entry_for k = position (get_or ns k []) (names_of es)

  -- 35 "a variable absent"
  unfoldable pub absent_at : ℕ → Judged
  absent_at k = refuse 35 (get_or (variables s) k 0) (eqb (entry_for k) (length es))

  -- a place for each node, with the values of the first k variables at their ids
  unfoldable pub assigned_up : ℕ → List ℕ
  assigned_up zero = zeros
  assigned_up (suc k) = set (assigned_up k) (get_or (variables s) k 0) (get_or es (entry_for k) no_entry).value

  unfoldable pub assigned : List ℕ
  assigned = assigned_up (length ns)

-- 36 "a fixed bit contradicted": node i is a variable, and a bit of lo is outside its value or one of the value outside hi
unfoldable pub contradicted_at : List ℕ → List ℕ → ℕ → Judged
contradicted_at s vs i =
    refuse 36 i (eqb (node_at s i).kind 0 && (bit_outside (node_at s i).lo (get_or vs i 0) || bit_outside (get_or vs i 0) (node_at s i).hi))

-- "the position of the first root that is 0"
unfoldable pub zero_at : List ℕ → List ℕ → ℕ → Judged
zero_at s vs j = cond (eqb (get_or vs (root_at s j) 0) 0) (No j) Yes

-- 32 to 36 and the roots, of a text that is a model
unfoldable pub judged_entries : List ℕ → List (List ℕ) → List Entry → Judged
judged_entries s ns es =
    first_said (unknown_at s ns es) (length es)
    next first_said (again_at s ns es) (length es)
    next first_said (misfit_at s ns es) (length es)
    next first_said (absent_at s ns es) (length ns)
    next first_said (contradicted_at s (assigned s ns es)) (node_count s)
    next first_said (zero_at s (evaluate (problem s) (assigned s ns es))) (root_count s)

-- 30 to 36 and the roots, of a problem that is accepted
unfoldable pub judged_text : List ℕ → List ℕ → List ℕ → Judged
judged_text s list text =
    refuse 30 0 (list_wrong (variables s) (names list))
    next refuse 31 0 (not (is_model text))
    next judged_entries s (names list) (entries text)

-- "Order: the problem's refusals; 30; 31 over the whole text; then 32, 33, 34, 35, 36, each over all."
unfoldable pub judged : List ℕ → List ℕ → List ℕ → Judged
judged s list text = of_problem (checked s) next judged_text s list text
