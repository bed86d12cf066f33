-- `agreement_second_route::second_route` meets its contract: rewriting is refused, or the writer has the part of the list that it filled.
use Rattle.search_meaning.specs.Answers as searches
use Rattle.agreement_second_route.specs.Laws.{rewriting_answered}
use Rattle.agreement_second_route.specs.Routes.{in_buffers}
use Rattle.agreement_second_route.proofs.second_route.Goals as goal

pub returns : goal.returns
returns c =
    let both = rewriting_answered c.args.n c.args.rules.now c.args.row.now c.args.d (in_buffers c.args.rewritten.now c.args.file.now c.args.list.now c.args.choice.now)
    c.in_ok-sizes.sizes.variables c.in_ok-sizes.sizes.length c.in_ok-sizes.ensures.reply c.rewrite.new.out c.in_ok-sizes.ensures.output (searches.reply_of c.from_writer.result)
    c.from_writer.new.file c.from_writer.new.list c.from_writer.new.choice c.from_writer.ensures.reply c.from_writer.ensures.file c.from_writer.ensures.list c.from_writer.ensures.choice in
    record { reply = both.0; buffers = both.1 }
