use Rattle.std.proofs.Common.{[], Some, sym, subst, Option, List, ℕ}
use Rattle.edi_tokens.specs.Lender.{Fed}
use Rattle.hub_commands.specs.Files.{HasFailed, OpensSource}
use Rattle.hub_commands.proofs.OneFile.{opens_source, read_failed, read_opens, unread_comes}
use Rattle.hub_commands.proofs.import.open_source.Given as given
use Rattle.hub_commands.proofs.import.open_source.Goals as goal
use Rattle.hub_commands.proofs.import.open_source.Goals.{After-open_lent-upload}

-- what was opened is that of the source's bytes
opens : (g : given.Over) (c : After-open_lent-upload g)
    → OpensSource g.B.Source.remaining c.args.source c.open_lent-upload.result
opens g c =
    opens_source g.B.Source.remaining
    (HasFailed g.B.Source.origin g.B.Source.failed) c.args.source c.in_ok-source.source c.open_lent-upload.result
    c.in_ok-source.was
    (λ bytes is. c.open_lent-upload.ensures.interchange bytes
    (subst (λ (known : Option (List ℕ)). Fed known bytes [] c.in-Ok.lender) (sym is) (c.in-Ok.ensures.fed bytes)))
    (c.open_lent-upload.ensures.some (record { known = Some []; all = []; fed = c.in-Ok.ensures.fed [] }))

pub returns-clause-opens : goal.returns-clause-opens
returns-clause-opens g c =
    read_opens g.B.Source.remaining (HasFailed g.B.Source.origin g.B.Source.failed) c.args.source c.in_ok-source.source
    c.open_lent-upload.result c.in_ok-source.was (opens g (goal.at.returns-clause-opens g c).After-open_lent-upload)
    (read_failed g.B.Source.origin g.B.Source.failed c.in_ok-source.source c.open_lent-upload.new.reader
    c.open_lent-upload.result c.open_lent-upload.ensures.origin (c.open_lent-upload.ensures.flag c.in-Ok.ensures.begun.going))
    c.unless_unread.result c.unless_unread.ensures.ok

pub returns-clause-fault : goal.returns-clause-fault
returns-clause-fault g c =
    unread_comes g.B.Source.remaining (HasFailed g.B.Source.origin g.B.Source.failed) c.args.source c.in_ok-source.source
    c.open_lent-upload.result c.in_ok-source.was (opens g (goal.at.returns-clause-fault g c).After-open_lent-upload)
    (read_failed g.B.Source.origin g.B.Source.failed c.in_ok-source.source c.open_lent-upload.new.reader
    c.open_lent-upload.result c.open_lent-upload.ensures.origin (c.open_lent-upload.ensures.flag c.in-Ok.ensures.begun.going))
    c.unless_unread.result c.unless_unread.ensures.err
