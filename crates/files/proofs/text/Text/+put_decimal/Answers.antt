-- The digits of a tenth of the number are put first.
use Rattle.std.proofs.Common.{◌≡◌, ◌%◌, arith}
use Rattle.files.proofs.Turns.{puts_more}
use Rattle.files.specs.laws.Text.{decimal_one, decimal_more}
use Rattle.files.proofs.text.Text.+put_decimal.Goals.{then-n-ge10, else-n-ge10}
use Rattle.files.proofs.text.Text.+put_decimal.Goals as goal

pub returns : goal.returns
returns t c =
    elim c.if-n-ge10.branch [
      | then-n-ge10 w ↦ rw (decimal_more c.args.n w.if-n-ge10.true (omega arith)) (puts_more w.put_decimal.ensures (rw w.self-is at c.put_byte.ensures))
      | else-n-ge10 w ↦
          let e : c.args.n % 10 ≡ c.args.n = omega (arith, w.if-n-ge10.false) in
          rw (decimal_one c.args.n (omega (arith, w.if-n-ge10.false))) (rw (w.self-is, e) at c.put_byte.ensures)
    ]
