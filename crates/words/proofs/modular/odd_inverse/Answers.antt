-- From 1 bit to 64 bits in six steps, each of which doubles the bits.
use Rattle.words.specs.laws.Modular.{inverse_one}
use Rattle.std.proofs.Common.{rules}
use Rattle.words.proofs.modular.odd_inverse.Goals as goal

pub returns : goal.returns
returns c =
    let i1 = inverse_one c.args.a c.requires in
    let i2 = c.newton-x2.ensures 1 (search rules) (search rules) i1 in
    let i4 = c.newton-x4.ensures 2 (search rules) (search rules) i2 in
    let i8 = c.newton-x8.ensures 4 (search rules) (search rules) i4 in
    let i16 = c.newton-x16.ensures 8 (search rules) (search rules) i8 in
    let i32 = c.newton-x32.ensures 16 (search rules) (search rules) i16 in
    record { inverse = c.newton.ensures 32 (search rules) (search rules) i32; fits = search rules }
