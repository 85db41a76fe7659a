-- One word more, and at the end all that fit.
use Rattle.std.proofs.Common.{◌≡◌, ◌<◌, ◌/◌, min, length, arith, rules}
use Rattle.files.specs.Words.{words_below}
use Rattle.files.specs.laws.Laid.{laid_none, laid_kept}
use Rattle.files.proofs.Turns.{words_turn, words_end}
use Rattle.files.proofs.numbers.words_of.Goals as goal

pub loop-i-init : goal.loop-i-init
unfolding words_below
loop-i-init c = laid_none _ _ (omega arith)

pub loop-i-preserved : goal.loop-i-preserved
loop-i-preserved c =
    let there : c.loop-i.i < length c.loop-i.into = omega (arith, c.loop-i-test.true, c.min-count.ensures, laid_kept c.loop-i.invariant) in
    words_turn _ there c.u64_at.ensures c.loop-i.invariant

pub returns : goal.returns
returns c =
    let e : c.loop-i.i ≡ c.min-count.result = omega (arith, c.loop-i-test.false) in
    let all : c.min-count.result ≡ min (length c.args.bytes.now / 8) (length c.args.into.now) = search rules in
    words_end _ all (rw e at c.loop-i.invariant)
