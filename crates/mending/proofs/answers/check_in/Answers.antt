-- Written, read back and checked.
use Rattle.mending.proofs.Turns.{file_answer}
use Rattle.mending.proofs.answers.check_in.Goals as goal

pub returns : goal.returns
returns c =
    let o = c.args.order.now in
    file_answer _ _ _ _ _ _ o.header c.requires.all c.requires.enough o.placed.olds_are c.put_file.ensures c.check.ensures
    c.at_old.ensures
