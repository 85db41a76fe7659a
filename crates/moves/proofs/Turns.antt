-- What a move that sets a variable takes from the definitions: the place it writes, and what evaluation above it asks.
use mathlib.Core.Path.{refl}
use mathlib.Core.List.{List}
use Prim.Native.Nat.{ℕ, ◌<◌}
use native.Mathlib.Omega.{arith}
use lib.ListN.{length, set, drop, length-set}
use Rattle.nodes.specs.Problem.{problem}
use Rattle.nodes.specs.inner.Good.{Good}
use Rattle.evaluation.specs.inner.Evaluation.{Assigned, Changed}
use Rattle.evaluation.specs.inner.Readers.{Indexed}
use Rattle.nodes.specs.laws.Good.{good_of}
use Rattle.moves.specs.Moves.{sets, Move}
use Rattle.moves.specs.inner.Moves.{Drawing, prob_in}
use Rattle.moves.specs.declared.tape.Tape.{Tape}
use Rattle.moves.specs.declared.view.Prepared.{Prepared}
use Rattle.moves.specs.laws.Moves.{Lands, move_lands, some_left}
use Rattle.moves.specs.laws.Setting.{after_agrees}

module _ {r : Prepared} {vs : List ℕ} {tape : Tape} {count made : ℕ} (d : Drawing r vs tape count made) {n v t : ℕ}
    {ws : List ℕ} (q : Move (prob_in r) vs (drop tape.at tape.words.now) made (sets n v t ws)) where
  abbrev s : List ℕ
  s = r.pairs.problem.bytes.now

  good : Good (problem s)
  good = good_of s r.pairs.problem.accepted

  lands : Lands (problem s) n v
  lands = move_lands (problem s) good vs r.open (some_left (problem s) vs d.some d.counted) q

  pub place_lt : n < length vs
  place_lt = omega (arith, lands.node, d.held.places)

  assigned : Assigned s (set vs n v)
  assigned =
      record {
        accepted = r.pairs.problem.accepted;
        places = omega (arith, length-set vs n v, d.held.places);
        agrees = after_agrees (problem s) good vs d.held n v lands;
      }

  pub changed : {slots : List ℕ} → Indexed s slots → Changed s slots (set vs n v) n
  changed i =
      record {
        assigned = assigned;
        indexed = i;
        inside = lands.node;
        variable = lands.is_var;
        before = vs;
        evaluated = d.held.evaluated;
        value = v;
        is = refl;
      }
