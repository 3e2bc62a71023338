-- `space::put` meets its contract. Assumes nothing.
use Rattle.space.proofs.Writing.{put_code}
use Rattle.space.proofs.put.Goals as goal

pub returns : goal.returns
returns c = put_code c.args.edition c.args.level c.args.p c.args.layer.above c.args.layer.rise c.args.line.now c.requires.0 c.requires.1 c.put.ensures c.put-2.ensures
