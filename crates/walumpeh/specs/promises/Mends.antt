-- The contract of `wal_mend` determines its number and every lent place.
use Rattle.std.specs.Prelude.{◌≡◌, List, ℕ}
use Rattle.std.proofs.Common.{sym, ap, ◌∙◌}
use Rattle.mending.specs.promises.Determined.{mend_determined}
use Rattle.walumpeh.specs.Codes.{checked_code}
use Rattle.walumpeh.specs.Mends.{MendCode}

pub wal_mend_determined :
    (s mended map : List ℕ) {m m' n n' : List ℕ} {r r' : ℕ}
    → MendCode s mended map m n r
    → MendCode s mended map m' n' r'
    → (m ≡ m') × (n ≡ n') × (r ≡ r')
wal_mend_determined s mended map a b =
    let d = mend_determined s mended map a.mends b.mends in (d.0, d.1, a.code ∙ ap checked_code d.2 ∙ sym b.code)
