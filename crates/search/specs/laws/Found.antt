-- Demand 3 of a problem: from any start that agrees with the pairs, a solution that is d variables away is reached. Some
-- tape of at most d x (1 + 2H) words makes the run say model within d moves.
use Rattle.std.specs.Prelude.{◌≡◌, List, [], ◌∷◌, ◌++◌, set}
use Rattle.std.proofs.Common.{◌∙◌, inl, inr, append_assoc, arith, not-suc-le-zero, mod-eq_of_lt, suc-mul, zero-add, length-append, length-set, get_or-set_same, get_or-set_other}
use Prim.Native.Nat.{ℕ, zero, suc, ◌+◌, ◌*◌, ◌≤◌, ◌<◌}
use Rattle.std.proofs.Math.Decide.{ℕ_discrete}
use Rattle.std.proofs.Math.ListN.{length, get_or}
use Rattle.search.specs.declared.Verdict.{Verdict}
use Rattle.search.specs.declared.Answer.{Answer}
use Rattle.nodes.specs.Problem.{Prob, Variable, evaluate}
use Rattle.moves.specs.Moves.{End, sets, Walk, Move, Move.from_root, Unsatisfied, AllOne}
use Rattle.search.specs.Run.{answer, Run, Run.model, Run.moved, Whole, Whole.searched}
use Rattle.nodes.specs.Values.{VariablesAgree, NodesAgree}
use Rattle.search.specs.Reach.{Solution, apart}
use Rattle.evaluation.specs.Height.{Longest}
use Rattle.nodes.specs.inner.Good.{Good, Held}
use Rattle.evaluation.specs.laws.Decide.{dec_not, Some, all_or_some, Listed, listed, Stands, lists_find, Member, lists_member}
use Rattle.evaluation.specs.laws.Values.{evaluate_variable, evaluated_same}
use Rattle.evaluation.specs.Readers.{Above}
use Rattle.evaluation.specs.laws.Above.{above_listed}
use Rattle.nodes.specs.laws.Pairs.{all_agree, every_node}
use Rattle.moves.specs.laws.Moves.{Lands}
use Rattle.search.specs.laws.Runs.{kept_start, kept_after, closed_none}
use Rattle.search.specs.laws.Apart.{apart_none, apart_le, apart_lt}
use Rattle.search.specs.laws.Lead.{Small, small_cons, lead}

small_append : (xs ys : List ℕ) → Small xs → Small ys → Small (xs ++ ys)
small_append [] ys hx hy = hy
small_append (x ∷ xs) ys hx hy =
    small_cons x (xs ++ ys) (hx 0 (omega arith)) (small_append xs ys (λ k l. hx (suc k) (omega arith)) hy)

-- the same walk, of an equal target
walk_to : {P : Prob} {vs ws : List ℕ} {n t t' s : ℕ} {r : End} → t ≡ t' → Walk P vs n t ws s r → Walk P vs n t' ws s r
walk_to e w = rw e at w

-- a list of words, whatever follows it on the tape, that leads to the answer model
pub record Leads (Ends : List ℕ → List ℕ → Answer → Type 0) (most limit : ℕ) : Type 0 where
  pub words : List ℕ
  pub few : length words ≤ most
  pub small : Small words
  pub out : List ℕ
  pub moves : ℕ
  pub moves_le : moves ≤ limit
  pub steps : ℕ
  pub evaluated : ℕ
  pub ends : (rest : List ℕ) → Ends (words ++ rest) out (answer moves steps evaluated Verdict.Model)

pub leads_on :
    {E F : List ℕ → List ℕ → Answer → Type 0} {most limit : ℕ}
    → ((ws out : List ℕ) (a : Answer) → E ws out a → F ws out a)
    → Leads E most limit
    → Leads F most limit
leads_on f l =
    record {
      words = l.words;
      few = l.few;
      small = l.small;
      out = l.out;
      moves = l.moves;
      moves_le = l.moves_le;
      steps = l.steps;
      evaluated = l.evaluated;
      ends = λ rest. f _ _ _ (l.ends rest);
    }

module _ (P : Prob) (g : Good P) (H : ℕ) (top : Longest P H) (us : List ℕ) (sol : Solution P us) where
  solved : NodesAgree P us
  solved = all_agree P g us sol.evaluated sol.agrees

  -- the words of one move, which sets a variable that differs to the solution's value
  record LedMove (vs : List ℕ) (s : ℕ) : Type 0 where
    words : List ℕ
    few : length words ≤ 1 + 2 * H
    small : Small words
    var : ℕ
    lands : Lands P var (get_or us var 0)
    differs : get_or vs var 0 ≡ get_or us var 0 → ⊥
    steps : ℕ
    move : (rest : List ℕ) → Move P vs (words ++ rest) s (sets var (get_or us var 0) steps rest)

  lead_move : (vs : List ℕ) (s : ℕ) → Held P vs → Some (Unsatisfied P vs) P.entries → LedMove vs s
  unfolding NodesAgree
  lead_move vs s h some =
      let ls : Listed (Unsatisfied P vs) P.entries = listed (Unsatisfied P vs) P.entries (λ j _. dec_not (ℕ_discrete _ 1)) in
      let st : Stands some.at ls.list = lists_find some.at ls.lists some.at_lt some.holds in
      let pos : 0 < length ls.list = omega (arith, st.place_lt) in
      let mb : Member (Unsatisfied P vs) P.entries (get_or ls.list 0 0) = lists_member ls.lists 0 pos in
      let n : ℕ = P.root (get_or ls.list 0 0) in
      let one : get_or us n 0 ≡ 1 = sol.all_one (get_or ls.list 0 0) mb.below in
      let b : n < P.nodes = g.root_below (get_or ls.list 0 0) mb.below in
      let l = lead P g vs us h.evaluated sol.evaluated (every_node P g vs h) solved P.nodes n s b b (λ e. mb.holds (e ∙ one)) in
      record {
        words = 0 ∷ l.words;
        few = omega (arith, l.few, top.none_longer l.links (record { entry = get_or ls.list 0 0; entry_lt = mb.below; chain = l.chain }));
        small = small_cons 0 l.words (omega arith) l.small;
        var = l.var;
        lands = record { node = l.var_lt; is_var = l.is_var; aimed = solved l.var l.var_lt };
        differs = l.differs;
        steps = l.steps;
        move =
            λ rest.
            from_root {r = sets l.var (get_or us l.var 0) l.steps rest} ls.list (omega arith) ls.lists
            (rw (mod-eq_of_lt pos) (walk_to one (l.walk rest)));
      }

  -- such a move comes closer
  after_less :
      (vs : List ℕ) (h : Held P vs) (k : ℕ)
      → Lands P k (get_or us k 0)
      → (get_or vs k 0 ≡ get_or us k 0 → ⊥)
      → apart P (evaluate P (set vs k (get_or us k 0))) us P.nodes < apart P vs us P.nodes
  after_less vs h k to d =
      let here : get_or next k 0 ≡ get_or us k 0 =
      kept k to.node to.is_var ∙ get_or-set_same vs k (get_or us k 0) 0 (omega (arith, to.node, h.places)) in
      apart_lt P vs next us P.nodes k
      (λ m l v.
      elim (ℕ_discrete m k) [
        | yes q ↦ inr (rw q here)
        | no x ↦ inl (kept m l v ∙ get_or-set_other vs k m (get_or us k 0) 0 x)
      ])
      to.node to.is_var d here
    where
      next : List ℕ
      next = evaluate P (set vs k (get_or us k 0))

      kept : (m : ℕ) → m < P.nodes → Variable P m → get_or next m 0 ≡ get_or (set vs k (get_or us k 0)) m 0
      kept m l v = evaluate_variable P (set vs k (get_or us k 0)) m (omega (arith, length-set vs k (get_or us k 0), h.places)) v

  -- no variable apart: a model
  none_apart : (vs : List ℕ) → Held P vs → apart P vs us P.nodes ≡ 0 → AllOne P vs
  none_apart vs h z j l =
      evaluated_same P g vs us h.evaluated sol.evaluated (apart_none P vs us P.nodes z) (P.root j) (g.root_below j l)
      ∙ sol.all_one j l

  module _ (B : ℕ) where
    -- the words that lead from vs, after m moves and s steps with e nodes evaluated, to a model within d moves more
    abbrev Reached : List ℕ → ℕ → ℕ → ℕ → ℕ → Type 0
    Reached vs m s e d = Leads (λ ws out a. Run P B vs ws m s e out a) (d * (1 + 2 * H)) (m + d)

    reached_here : (vs : List ℕ) (m s e d : ℕ) → AllOne P vs → Reached vs m s e d
    reached_here vs m s e d y =
        record {
          words = [];
          few = omega arith;
          small = λ k l. absurd (not-suc-le-zero l);
          out = vs;
          moves = m;
          moves_le = omega arith;
          steps = s;
          evaluated = e;
          ends = λ rest. model y;
        }

    reached_onward :
        (vs : List ℕ) (m s e d : ℕ)
        → (AllOne P vs → ⊥)
        → m < B
        → (mv : LedMove vs s)
        → (u : Listed (Above P mv.var) P.nodes)
        → Reached (evaluate P (set vs mv.var (get_or us mv.var 0))) (m + 1) mv.steps (e + length u.list) d
        → Reached vs m s e (suc d)
    reached_onward vs m s e d x b mv u r =
        record {
          words = mv.words ++ r.words;
          few = omega (arith, length-append mv.words r.words, mv.few, r.few, suc-mul d (1 + 2 * H));
          small = small_append mv.words r.words mv.small r.small;
          out = r.out;
          moves = r.moves;
          moves_le = omega (arith, r.moves_le);
          steps = r.steps;
          evaluated = r.evaluated;
          ends = λ rest. rw append_assoc (moved x b (mv.move (r.words ++ rest)) u.lists (r.ends rest));
        }

    reach : (d : ℕ) (vs : List ℕ) (m s e : ℕ) → Held P vs → apart P vs us P.nodes ≤ d → m + d ≤ B → Reached vs m s e d
    reach zero vs m s e h a b = reached_here vs m s e 0 (none_apart vs h (omega arith))
    reach (suc d) vs m s e h a b =
        elim (all_or_some (λ j. get_or vs (P.root j) 0 ≡ 1) P.entries (λ j _. ℕ_discrete (get_or vs (P.root j) 0) 1)) [
          | inl y ↦ reached_here vs m s e (suc d) y
          | inr u ↦
              let mv : LedMove vs s = lead_move vs s h u in
              let up : Listed (Above P mv.var) P.nodes = above_listed P g mv.var in
              reached_onward vs m s e d (λ y. u.holds (y u.at u.at_lt)) (omega arith) mv up
              (reach d (evaluate P (set vs mv.var (get_or us mv.var 0))) (m + 1) mv.steps (e + length up.list)
              (kept_after P g vs h mv.var (get_or us mv.var 0) mv.lands).values
              (omega (arith, after_less vs h mv.var mv.lands mv.differs))
              (omega arith))
        ]

    -- a whole run: a solution leaves no root fixed at 0
    pub found :
        (start : List ℕ) (d : ℕ)
        → P.nodes ≤ length start
        → VariablesAgree P start
        → apart P start us P.nodes ≤ d
        → d ≤ B
        → Leads (λ ws out a. Whole P B start ws out a) (d * (1 + 2 * H)) d
    found start d room va a b =
        let le : apart P (evaluate P start) us P.nodes ≤ apart P start us P.nodes =
        apart_le P start (evaluate P start) us P.nodes (λ m k v. inl (evaluate_variable P start m (omega arith) v)) in
        leads_on (λ ws out a r. searched (λ c. closed_none P g us solved c sol.all_one) r)
        (rw zero-add at (reach d (evaluate P start) 0 0 P.nodes (kept_start P g start room va).values (omega arith) (omega arith)))
