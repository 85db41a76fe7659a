-- Laws of a name that is added, or not.
use Rattle.std.specs.Prelude.{◌≡◌, refl, Bool, true, false, ◌||◌, List, ℕ, ◌+◌, ◌≤◌, ◌<◌, ltb, set}
use Rattle.std.proofs.Common.{sym, arith, ltb-true}
use Rattle.std.proofs.lemmas.Bool.{false≢true}
use Rattle.lines.specs.declared.table.Makes.{Makes}
use Rattle.lines.specs.declared.table.Makes.TheVariants.{Sort, Input, Value, Root}
use Rattle.btor2.specs.inner.Taking.{adds_name, NamedIf, kept, added}

-- a line of n nodes, or fewer than 1,024 ids: there is room for one more
room : (n names : ℕ) → (ltb 0 n || ltb names 1024) ≡ true → names + n ≤ 2048 → names < 2048
room n names e f = by (ltb 0 n) refl e
  where
    by : (b : Bool) → ltb 0 n ≡ b → (b || ltb names 1024) ≡ true → names < 2048
    by true u v = let h = ltb-true 0 n u in omega arith
    by false u v = let h = ltb-true names 1024 v in omega arith

pub either_room : (n names nodes : ℕ) → (ltb 0 n || ltb names 1024) ≡ true → names ≤ nodes + 1024 → nodes + n ≤ 1024
    → (names < 2048) × (names + 1 ≤ nodes + n + 1024)
either_room n names nodes e f g = by (ltb 0 n) refl e
  where
    by : (b : Bool) → ltb 0 n ≡ b → (b || ltb names 1024) ≡ true → (names < 2048) × (names + 1 ≤ nodes + n + 1024)
    by true u v = let h = ltb-true 0 n u in (omega arith, omega arith)
    by false u v = let h = ltb-true names 1024 v in (omega arith, omega arith)

pub adds_room : (m : Makes) (n names : ℕ) → adds_name m n names ≡ true → names + n ≤ 2048 → names < 2048
adds_room Sort n names e f = absurd (false≢true e)
adds_room Input n names e f = room n names e f
adds_room Value n names e f = room n names e f
adds_room Root n names e f = absurd (false≢true e)

pub name_kept : (ids places : List ℕ) (names id node : ℕ) (b : Bool) → b ≡ false → NamedIf b ids places names id node ids places names
name_kept ids places names id node b e = rw e kept

pub name_added : (ids places : List ℕ) (names id node : ℕ) (b : Bool) → b ≡ true
    → NamedIf b ids places names id node (set ids names id) (set places names node) (names + 1)
name_added ids places names id node b e = rw e added

-- how many ids there then are
adds_few : (m : Makes) (n names nodes : ℕ) → adds_name m n names ≡ true → names ≤ nodes + 1024 → nodes + n ≤ 1024 → names + 1 ≤ nodes + n + 1024
adds_few Sort n names nodes e f g = absurd (false≢true e)
adds_few Input n names nodes e f g = (either_room n names nodes e f g).1
adds_few Value n names nodes e f g = (either_room n names nodes e f g).1
adds_few Root n names nodes e f g = absurd (false≢true e)

pub named_few : {ids places ids' places' : List ℕ} {id node r : ℕ} {b : Bool} (m : Makes) (n names nodes : ℕ) → NamedIf b ids places names id node ids' places' r
    → b ≡ adds_name m n names → names ≤ nodes + 1024 → nodes + n ≤ 1024 → r ≤ nodes + n + 1024
named_few m n names nodes kept e f g = omega arith
named_few m n names nodes added e f g = adds_few m n names nodes (sym e) f g
