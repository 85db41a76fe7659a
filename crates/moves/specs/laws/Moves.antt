-- Laws of steps, walks and moves: where a step goes, which variable a move sets and to what, and what it reads.
use Rattle.std.specs.Prelude.{◌≡◌, refl, List, ℕ, ◌+◌, ◌*◌, ◌/◌, ◌%◌, ◌<◌, length, get_or, drop}
use Rattle.std.proofs.Common.{sym, subst, arith, mod-lt, length-drop}
use Rattle.std.proofs.Math.Decide.{ℕ_discrete}
use Rattle.words.specs.Agree.{Agrees}
use Rattle.words.specs.laws.Agree.{agrees_of_within, within_refl}
use Rattle.words.specs.laws.Pick.{pick_member}
use Rattle.picking.specs.declared.spot.Spot.{Spot}
use Rattle.picking.specs.Spot.{at, positions, Candidate}
use Rattle.nodes.specs.Problem.{Prob, count, arg, Variable, spot_of, spot, pair_lo, pair_hi}
use Rattle.evaluation.specs.Lists.{Lists}
use Rattle.moves.specs.Step.{Out, goes, blocked, Follows, Follows.inverse, Follows.consistent, Follows.nothing, Step, Step.none_left, Step.followed}
use Rattle.moves.specs.Moves.{End, sets, stuck, short, Walk, Walk.arrives, Walk.unserved, Walk.stops, Walk.onward, Unsatisfied, AllOne, Move, Move.no_word, Move.from_root, ClosedRoot}
use Rattle.nodes.specs.inner.Good.{Good}
use Rattle.evaluation.specs.laws.Decide.{Stands, lists_find, Member, lists_member}
use Rattle.nodes.specs.laws.Nodes.{at_column}
use Rattle.nodes.specs.laws.Pairs.{pairs_ternary}
use Rattle.evaluation.specs.inner.Lists.{Count}
use Rattle.moves.specs.inner.Moves.{Aimed}

-- a step goes to a candidate of the node, with a value that agrees with its pair
record Goes (S : Spot) (t i v : ℕ) : Type 0 where
  pub place_lt : i < positions S
  pub candidate : Candidate S t i
  pub agrees : Agrees (at S.los i) (at S.his i) v

abbrev GoesTo : Spot → ℕ → Out → Type 0
GoesTo S t (goes i v) = Goes S t i v
GoesTo S t blocked = Unit {0}

follows_goes : {S : Spot} {t e p i : ℕ} {o : Out} → Member (Candidate S t) (positions S) i → Follows S t e p i o → GoesTo S t o
follows_goes m (inverse z k) = record { place_lt = m.below; candidate = m.holds; agrees = (pick_member k).agrees }
follows_goes m (consistent w k) = record { place_lt = m.below; candidate = m.holds; agrees = (pick_member k).agrees }
follows_goes m (nothing w n) = tt

step_goes : {S : Spot} {t e p : ℕ} {o : Out} → Step S t e p o → GoesTo S t o
step_goes {S} {t} (none_left l b) = subst (GoesTo S t) (sym b) tt
step_goes {e = e} (followed l ls h k) = follows_goes (lists_member ls (e / 2 % length l) (mod-lt (e / 2) h)) k

module _ (P : Prob) where
  -- the variable that a move sets is a node, and takes a value that agrees with its pair
  pub record Lands (n v : ℕ) : Type 0 where
    pub node : n < P.nodes
    pub is_var : Variable P n
    pub aimed : Aimed P n v

  abbrev pub Landed : End → Type 0
  Landed (sets n v s ws) = Lands n v
  Landed (stuck s ws) = Unit {0}
  Landed short = Unit {0}

  -- "words = moves + 2 x steps": k words read before, the words left, and two for each step made, are t
  abbrev pub Spends : ℕ → ℕ → End → Type 0
  Spends k t (sets n v s ws) = k + length ws + 2 * s ≡ t
  Spends k t (stuck s ws) = k + length ws + 2 * s ≡ t
  Spends k t short = Unit {0}

  module _ (vs : List ℕ) where
    pub walk_spends : (k : ℕ) {n t s : ℕ} {ws : List ℕ} {r : End} → Walk P vs n t ws s r → Spends k (k + length ws + 2 * s) r
    walk_spends k (arrives v) = refl
    walk_spends k (unserved x h) = tt
    walk_spends k {ws = ws} (stops x h st) = omega (arith, length-drop 2 ws)
    walk_spends k {s = s} {ws = ws} {r = r} (onward x h st w) =
        let e : k + length (drop 2 ws) + 2 * (s + 1) ≡ k + length ws + 2 * s = omega (arith, length-drop 2 ws) in
        subst (λ (t : ℕ). Spends k t r) e (walk_spends k w)

    pub move_spends : {ws : List ℕ} {s : ℕ} {r : End} → Move P vs ws s r → Spends 1 (length ws + 2 * s) r
    move_spends (no_word h) = tt
    move_spends {ws = ws} {s = s} {r = r} (from_root us h l w) =
        let e : 1 + length (drop 1 ws) + 2 * s ≡ length ws + 2 * s = omega (arith, length-drop 1 ws) in
        subst (λ (t : ℕ). Spends 1 t r) e (walk_spends 1 w)

    -- no root entry is listed as unsatisfied: all are 1
    pub none_unsatisfied : {us : List ℕ} → Lists (Unsatisfied P vs) P.entries us → length us ≡ 0 → AllOne P vs
    none_unsatisfied {us} l e j b =
        elim (ℕ_discrete (get_or vs (P.root j) 0) 1)
        [ yes o ↦ o | no x ↦ absurd (let st : Stands j us = lists_find j l b x in omega (arith, st.place_lt)) ]

    pub some_unsatisfied : {us : List ℕ} → Lists (Unsatisfied P vs) P.entries us → (AllOne P vs → ⊥) → 0 < length us
    some_unsatisfied {us} l x = elim (ℕ_discrete (length us) 0) [ yes e ↦ absurd (x (none_unsatisfied l e)) | no y ↦ omega arith ]

    pub no_more : Count (Unsatisfied P vs) P.entries 0 → AllOne P vs
    no_more c = none_unsatisfied c.lists c.is

    pub some_left : {u : ℕ} → 0 < u → Count (Unsatisfied P vs) P.entries u → AllOne P vs → ⊥
    some_left h c y =
        let m = lists_member c.lists 0 (omega (arith, c.is)) in
        m.holds (y (get_or c.list 0 0) m.below)

-- of an accepted problem
module _ (P : Prob) (g : Good P) where
  -- where a step goes: down to an operand that is not fully fixed, with a value that agrees with the operand's pair
  pub record Next (n i v : ℕ) : Type 0 where
    pub place_lt : i < count P n
    pub below : arg P n i < n
    pub unfixed : pair_lo P (arg P n i) ≡ pair_hi P (arg P n i) → ⊥
    pub aimed : Aimed P (arg P n i) v

  pub step_next : (vs : List ℕ) {n t e p i v : ℕ} → n < P.nodes → Step (spot P vs n) t e p (goes i v) → Next n i v
  unfolding spot_of
  step_next vs {n} {i = i} {v = v} l st =
      let to = step_goes st in
      let b : i < count P n = to.place_lt in
      record {
        place_lt = b;
        below = (g.node n l).below i b;
        unfixed = rw (at_column P (pair_lo P) n i b, at_column P (pair_hi P) n i b) at to.candidate.open_bits;
        aimed = rw (at_column P (pair_lo P) n i b, at_column P (pair_hi P) n i b) at to.agrees;
      }

  pub walk_lands : (vs : List ℕ) {n t s : ℕ} {ws : List ℕ} {r : End} → Walk P vs n t ws s r → n < P.nodes → Aimed P n t → Landed P r
  walk_lands vs (arrives v) l a = record { node = l; is_var = v; aimed = a }
  walk_lands vs (unserved x h) l a = tt
  walk_lands vs (stops x h k) l a = tt
  walk_lands vs (onward x h k w) l a = let n = step_next vs l k in walk_lands vs w (omega (arith, n.below)) n.aimed

  -- 1 agrees with the pair of a root that is not fixed at 0
  pub root_aimed : (ClosedRoot P → ⊥) → (j : ℕ) → j < P.entries → Aimed P (P.root j) 1
  root_aimed c j l =
      let t = pairs_ternary P g (P.root j) (g.root_below j l) in
      let short : pair_hi P (P.root j) < 2 = rw (g.root_bit j l) at t.short in
      let some : (pair_hi P (P.root j) ≡ 0 → ⊥) = λ e. c (record { at = j; at_lt = l; is_zero = e }) in
      let one : pair_hi P (P.root j) ≡ 1 = omega arith in
      rw one (agrees_of_within (rw one at t.ordered) (within_refl 1))

  pub move_lands :
      (vs : List ℕ) {ws : List ℕ} {s : ℕ} {r : End}
      → (ClosedRoot P → ⊥)
      → (AllOne P vs → ⊥)
      → Move P vs ws s r
      → Landed P r
  move_lands vs c x (no_word h) = tt
  move_lands vs {ws} c x (from_root us h l w) =
      let m = lists_member l (get_or ws 0 0 % length us) (mod-lt (get_or ws 0 0) (some_unsatisfied P vs l x)) in
      walk_lands vs w (g.root_below _ m.below) (root_aimed c _ m.below)
