-- `program_opb_text::put_opb` meets its contract: no room for the file, refused for another cause, or written.
use Rattle.program_opb_text.specs.Laws.{said_short, said_written}
use Rattle.program_opb_text.proofs.put_opb.Goals as goal

pub returns-in-Err-clause-bound : goal.returns-in-Err-clause-bound
returns-in-Err-clause-bound c =
    (said_short c.args.n c.args.rules.now c.args.row.now c.args.d c.args.out.now c.write_opb.new.file c.write_opb.ensures.output c.in-Err.r c.in-Err.ensures.reply c.if-r-eq15.true).1.1

pub returns-in-Ok-clause-bound : goal.returns-in-Ok-clause-bound
returns-in-Ok-clause-bound c =
    (said_written c.args.n c.args.rules.now c.args.row.now c.args.d c.args.out.now c.write_opb.new.file c.write_opb.ensures.output c.in-Ok.length c.in-Ok.ensures.reply).1.1
