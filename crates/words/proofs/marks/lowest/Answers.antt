-- Word after word: what lies between the id asked for and the loop's is not marked.
use Rattle.std.proofs.Common.{◌≡◌, ◌/◌, ◌∙◌, sym, arith}
use Rattle.words.specs.laws.Marks.{clear_on, clear_word, in_word, mark_found, clear_below}
use Rattle.words.proofs.marks.lowest.Goals as goal

pub returns-then-word-ne0 : goal.returns-then-word-ne0
returns-then-word-ne0 c = let marks = c.args.marks.now in
    let at = c.loop-w.at in
    let w = (c.type_inv.marks (at / 64)).fits in
    let e : c.from.result ≡ at / 64 = c.from.ensures ∙ sym c.loop-w.invariant.2 in
    let low = rw e at c.low_bit.ensures in
    let i = in_word marks at c.low_bit.result low w in
    record {
      after = omega (arith, c.loop-w.invariant.0);
      most = omega (arith, c.loop-w-test.true, c.loop-w.invariant.2, i);
      clear = clear_on marks c.loop-w.invariant.3 (clear_below marks at c.low_bit.result low w);
      is = λ h. mark_found marks at c.low_bit.result low w;
    }

pub loop-w-preserved : goal.loop-w-preserved
loop-w-preserved c = let marks = c.args.marks.now in
    let e : c.from.result ≡ c.loop-w.at / 64 = c.from.ensures ∙ sym c.loop-w.invariant.2 in
    let next = clear_on marks c.loop-w.invariant.3 (clear_word marks c.loop-w.at (rw e at c.if-word-ne0.false)) in
    (omega (arith, c.loop-w.invariant.0, c.loop-w.invariant.2), omega (arith, c.loop-w-test.true), omega arith, rw (← c.loop-w.invariant.2) next)
