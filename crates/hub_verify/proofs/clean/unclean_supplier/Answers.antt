use Rattle.hub_sound.specs.Finding.{supplier_key}
use Rattle.hub_sound.specs.declared.finding.RowKind.TheVariants as kinds
use Rattle.hub_store.specs.Clean.{clean_key}
use Rattle.hub_verify.proofs.Findings.{told_read}
use Rattle.hub_verify.proofs.clean.unclean_supplier.Goals as goal

pub returns : goal.returns
returns g c =
    told_read g.S.AllRows.content g.S.AllRows.honest supplier_key clean_key (λ t. t.keys) kinds.Supplier (λ t key it. it) c.args.store.now
    c.every_supplier.new.self c.in_ok-read.read c.unclean_of.result c.unclean_of.ensures c.in_ok-read.ensures
