use Rattle.std.proofs.Common.{◌≡◌, ℕ, false, length, count_by}
use Rattle.hub_tables.specs.Tables.{Tables}
use Rattle.hub_pieces.proofs.Telling.{follows}
use Rattle.hub_verify.proofs.counts.remembered_messages.Goals as goal

pub returns : goal.returns
returns g c =
    follows g.S.AllRows.content g.S.AllRows.honest
    (λ (t : Tables) (n : ℕ × ℕ). (n.0 ≡ length t.remembered) × (n.1 ≡ count_by (λ row. false) t.remembered))
    (λ (t : Tables) n. n ≡ length t.remembered) c.args.store.now c.count_all.new.store c.in_ok-counted.counted c.in_ok-counted.counted.0
    (λ t h. h.0) c.in_ok-counted.ensures
