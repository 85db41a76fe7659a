-- The contract of `wal_need` determines its number and every lent place.
use Rattle.std.specs.Prelude.{◌≡◌, refl, List, ℕ, set}
use Rattle.std.proofs.Common.{ap, arith}
use Rattle.tapes.specs.declared.TapeNeed.{TapeNeed}
use Rattle.tapes.specs.promises.Determined.{need_determined}
use Rattle.walumpeh.specs.Codes.{checked_code}
use Rattle.walumpeh.specs.Needs.{NeedCode, NeedCode.no_room, NeedCode.told}

pub wal_need_determined :
    (s : List ℕ) (B : ℕ) (out : List ℕ) {o o' : List ℕ} {r r' : ℕ}
    → NeedCode s B out o r
    → NeedCode s B out o' r'
    → (o ≡ o') × (r ≡ r')
wal_need_determined s B out (no_room h) (no_room h') = (refl, refl)
wal_need_determined s B out (no_room h) (told h' n') = absurd (omega arith)
wal_need_determined s B out (told h n) (no_room h') = absurd (omega arith)
wal_need_determined s B out (told {n = a} h n) (told {n = a'} h' n') =
    let e : a ≡ a' = need_determined s B a a' n n' in
    (ap (λ (x : TapeNeed). set (set out 0 x.h) 1 x.words) e, ap (λ (x : TapeNeed). checked_code x.found) e)
