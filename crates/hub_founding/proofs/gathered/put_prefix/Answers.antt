use Rattle.std.proofs.Common.{◌++◌, ◌∷◌, [], sym, ap, ◌∙◌}
use Rattle.hub_founding.proofs.Gathering.{put_at}
use Rattle.hub_founding.proofs.Keys.{had_at}
use Rattle.hub_founding.proofs.gathered.put_prefix.Goals as goal

pub returns-clause-had : goal.returns-clause-had
returns-clause-had c = λ rises.
    let there = c.in-Some.ensures.some in sym (had_at c.args.row.now.supplier c.args.keys.now c.in-Some.place there.0 there.1)

pub returns-clause-put : goal.returns-clause-put
returns-clause-put c = λ _ rises.
    let there = c.in-Some.ensures.some in
    put_at (λ list. list.items) c.args.row.now c.push.new.self c.args.keys.now c.args.lists.now.items c.in-Some.place
    c.index_mut.result.now rises c.requires there.0 there.1
    (c.in_ok-push.ensures.items ∙ ap (λ list. list.items ++ c.args.row.now.prefix ∷ []) c.index_mut.ensures.value)
