use Rattle.hub_law.proofs.Agreeing.{see_alike, told_alike, statuses_alike}
use Rattle.hub_law.proofs.laws.runs_alike.Goals as goal

pub returns-clause-seen : goal.returns-clause-seen
returns-clause-seen c gln t u xs ys agree =
    see_alike gln t u agree.here agree.there agree.other agree.parties agree.rows xs ys agree.items

pub returns-clause-told : goal.returns-clause-told
returns-clause-told c gln t u xs ys agree =
    told_alike gln t u agree.here agree.there agree.other agree.parties agree.rows xs ys agree.items

pub returns-clause-status : goal.returns-clause-status
returns-clause-status c gln t u xs xs_later ys ys_later x y before =
    let agree = before.agree in
    statuses_alike gln t u agree.here agree.there agree.other agree.parties agree.rows xs xs_later ys ys_later x y agree.items
    before.as_many before.asks before.asks_too
