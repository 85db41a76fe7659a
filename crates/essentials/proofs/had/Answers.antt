-- The two ways, each by its two tests.
use Rattle.std.specs.Prelude.{◌≡◌, ◌&&◌, ◌==◌}
use Rattle.std.proofs.Common.{sym, ◌∙◌}
use Rattle.words.specs.laws.Decides.{decides_and, decides_eq, decides_same}
use Rattle.picking.specs.Spot.{at as standing}
use Rattle.essentials.proofs.EssentialLaws.{decides_either, decides_read}
use Rattle.essentials.proofs.had.Goals as goal

pub returns : goal.returns
returns c =
    let t = c.args.t in
    let stays = rw c.from-way.ensures at c.agrees.ensures in
    let turns = rw c.from-way.ensures at c.agrees-2.ensures in
    let fits = decides_read t c.agrees-3.result c.at-l.ensures c.at-h.ensures c.agrees-3.ensures in
    let kept = decides_same (c.at.result ≡ t) (standing c.args.s.current c.args.i ≡ t) (λ e. sym c.at.ensures ∙ e) (λ e. c.at.ensures ∙ e) (c.at.result == t) (decides_eq c.at.result t) in
    decides_either _ _ (c.agrees.result && (c.at.result == t)) (c.agrees-2.result && c.agrees-3.result)
    (decides_and _ _ c.agrees.result (c.at.result == t) stays kept) (decides_and _ _ c.agrees-2.result c.agrees-3.result turns fits)
