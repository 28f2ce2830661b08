use Rattle.hub_sound.specs.Finding.{hub_key}
use Rattle.hub_sound.specs.declared.finding.RowKind.TheVariants as kinds
use Rattle.hub_store.specs.Clean.{clean_hub}
use Rattle.hub_verify.proofs.Findings.{told_read}
use Rattle.hub_verify.proofs.clean.unclean_hub.Goals as goal

pub returns : goal.returns
returns g c =
    told_read g.S.AllRows.content g.S.AllRows.honest hub_key clean_hub (λ t. t.hubs) kinds.Hub (λ t key it. it) c.args.store.now
    c.every_hub.new.self c.in_ok-read.read c.unclean_of.result c.unclean_of.ensures c.in_ok-read.ensures
