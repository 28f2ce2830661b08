use Rattle.std.proofs.Common.{◌≡◌, true, refl}
use Rattle.std.specs.List.{list_all}
use Rattle.hub_founding.specs.Fits.{fits_pallet}
use Rattle.hub_tables.specs.Tables.{Tables}
use Rattle.hub_tables.specs.declared.rows.PalletRow.{PalletRow}
use Rattle.hub_verify.specs.Cross.{ShowsUnrooted}
use Rattle.hub_pieces.specs.Pieces.{piece}
use Rattle.hub_pieces.specs.declared.piece_kind.PieceKind.TheVariants.{Pallet}
use Rattle.hub_pieces.proofs.Walking.{walked_rows}
use Rattle.hub_verify.proofs.cross.unrooted_pallet.Goals as goal

pub returns : goal.returns
returns g c =
    walked_rows g.S.AllRows.content g.S.AllRows.honest Pallet
    (λ (t : Tables) value. list_all (fits_pallet c.args.register.now) (piece (λ (row : PalletRow). row.supplier) value t.pallets) ≡ true)
    (ShowsUnrooted c.args.register.now) (λ t. t.pallets) (λ (row : PalletRow). row.supplier) (λ t. refl)
    (λ t. fits_pallet c.args.register.now) (λ t value h. h) c.args.store.now c.walk_pieces.new.store c.in_ok-found.found
    c.in_ok-found.ensures
