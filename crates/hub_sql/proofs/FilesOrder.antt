-- Shows that in a database opened over files the row numbers of each table rise.
use Rattle.std.proofs.Common.{◌≡◌, inl, inr, List, [], ◌∷◌, filter, sym, ap, subst, ◌∙◌}
use Rattle.std.proofs.Math.Logic.{∥∥₁_elim}
use Rattle.std.specs.List.{AllZip}
use Rattle.sqlite.specs.Files.{AreFoundIn, file_state}
use Rattle.sqlite.specs.Held.{Held}
use Rattle.sqlite.specs.State.{HasCleanDisk}
use Rattle.sqlite_disk.specs.declared.Disk as disk
use Rattle.sqlite_store.specs.declared.store.FileStore.{FileStore}
use Rattle.sqlite.specs.Schema.{Schema}
use Rattle.sqlite.specs.Table.{Table}
use Rattle.sqlite_catalog.specs.Listing.{AreListed, IsTableRow, is_table_row}
use Rattle.sqlite_catalog.proofs.LayoutLemmas.{laid_out}
use Rattle.sqlite_store.proofs.ListingLemmas.{all_ordered}
use Rattle.sqlite_store.specs.Listed.{catalog_rows, is_listed}
use Rattle.sqlite_store.specs.Listing.{all_shapes, all_reals, file_trees}
use Rattle.sqlite_trees.specs.Objects.{catalog_tree, IsListed}
use Rattle.sqlite_trees.specs.Props.{IsOrdered-prop}
use Rattle.sqlite_trees.specs.Tree.{Trees}
use Rattle.sqlite_trees.specs.View.{IsOrdered, IsShaped}
use Rattle.sqlite_value.specs.Order.{Row}
use Rattle.sqlite_wal.specs.Recovery.{Image}
use Rattle.hub_sql.proofs.Shapes.{all_shaped}
use Rattle.hub_sql.specs.File.{IsOver}
use Rattle.hub_sql.specs.Opening.{IsReady}
use Rattle.hub_sql.specs.Version.{AreRising}

-- no table is listed if nothing is
none_listed : (objects : List Row) (tables : List Table) (trees : Trees) → objects ≡ []
    → AllZip IsTableRow (filter is_table_row objects) tables → AreRising trees tables
none_listed objects [] trees none listed = tt
none_listed [] (table ∷ tables) trees none listed = absurd listed
none_listed (object ∷ objects) (table ∷ tables) trees none listed = cc

pub found_rise : (image : Image) (schema : Schema) (trees : Trees) → AreFoundIn image trees
    → AreListed (trees catalog_tree) schema → AreRising trees schema.tables
found_rise image schema trees (inl it) listed =
    let size = it.0 in
    let pages = it.1 in
    let wanted = it.2 in
    let read : trees ≡ file_trees size wanted pages = it.5 in
    let ordered : IsOrdered (all_shapes wanted) trees =
    ∥∥₁_elim it.4 (IsOrdered-prop _ _) (λ ours.
    subst (IsOrdered (all_shapes wanted)) (sym read) (all_ordered ours.file.db _)) in
    let rows = ap (λ db. db catalog_tree) read ∙ catalog_rows size wanted _ in
    let named : IsListed (trees catalog_tree) (all_shapes wanted) (all_reals wanted) =
    subst (λ objects. IsListed objects (all_shapes wanted) (all_reals wanted)) (sym rows) (is_listed wanted) in
    let itself = subst (λ s. IsShaped s (trees catalog_tree)) named.itself.0 (ordered catalog_tree) in
    all_shaped (all_shapes wanted) trees schema.tables ordered (laid_out named itself listed).tables
found_rise image schema trees (inr it) listed =
    none_listed (trees catalog_tree) schema.tables trees it.1.1 listed.tables

-- a connection that was opened over files
module _ {D : Type 0} {g : disk.Ghosts D} (image : Image) (conn : Held (FileStore D g)) (over : IsOver image conn)
    (clean : HasCleanDisk (file_state conn)) where
  pub opened_ready : IsReady (file_state conn)
  opened_ready =
      let opened = over.opened clean in
      record { up = opened.0.is_open; shown = opened.0.clean; sound = (opened.1 opened.0.is_open).0 }

  pub opened_rises : AreRising (file_state conn).now.trees conn.schema.tables
  opened_rises = found_rise image conn.schema (file_state conn).now.trees
      (subst (λ db. AreFoundIn image db.trees) (sym opened_ready.shown) (over.found clean).reads) opened_ready.sound.lists.listed
