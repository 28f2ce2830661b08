use Rattle.hub_sound.specs.Finding.{prefix_key}
use Rattle.hub_sound.specs.declared.finding.RowKind.TheVariants as kinds
use Rattle.hub_store.specs.Clean.{clean_prefix}
use Rattle.hub_verify.proofs.Findings.{told_read}
use Rattle.hub_verify.proofs.clean.unclean_prefix.Goals as goal

pub returns : goal.returns
returns g c =
    told_read g.S.AllRows.content g.S.AllRows.honest prefix_key clean_prefix (λ t. t.prefixes) kinds.Prefix (λ t key it. it)
    c.args.store.now
    c.every_prefix.new.self c.in_ok-read.read c.unclean_of.result c.unclean_of.ensures c.in_ok-read.ensures
