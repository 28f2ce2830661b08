use Rattle.hub_sound.specs.Finding.{supplier_key}
use Rattle.hub_store.specs.Clean.{clean_key}
use Rattle.hub_verify.proofs.Counting.{counted}
use Rattle.hub_verify.proofs.counts.suppliers.Goals as goal

pub returns : goal.returns
returns g c =
    counted g.S.AllRows.content g.S.AllRows.honest supplier_key clean_key (λ t. t.keys) c.args.store.now c.every_supplier.new.self
    c.in_ok-read.read c.in_ok-rows.rows c.in_ok-rows.ensures.ok
    c.in_ok-read.ensures c.len.result c.len.ensures
