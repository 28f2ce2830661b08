-- All rows of the register.
use Rattle.std.proofs.Common.{Result, true, [], ◌∷◌, refl, ◌∙◌}
use Rattle.std.specs.Bool.{⊤}
use Rattle.sqlite_value.specs.Order.{column}
use Rattle.sqlite.specs.State.{State}
use Rattle.sql_rows.specs.Cells.{AreOf}
use Rattle.hub_rows.specs.Asks.{Asks}
use Rattle.hub_rows.specs.Shown.{shown_hub, shown_key, shown_prefix}
use Rattle.hub_rows.proofs.Ranking.{then_none, rank_bytes}
use Rattle.hub_schema.specs.Rows.{hub_row_in, key_row_in, prefix_row_in}
use Rattle.hub_schema.specs.State.{LooksFor}
use Rattle.hub_schema.proofs.Single.{hub_rises, hub_kinds, key_kinds, prefix_kinds, hub_cells, key_cells, prefix_cells}
use Rattle.hub_sound.specs.Finding.{hub_key, supplier_key, prefix_key}
use Rattle.hub_store.specs.Clean.{clean_hub, clean_key, clean_prefix}
use Rattle.hub_store.specs.declared.fault.StoreFault.{StoreFault}
use Rattle.hub_tables.proofs.KindOrders.{hub_total, key_total, prefix_total}
use Rattle.hub_tables.specs.declared.rows.HubRow.{HubRow}
use Rattle.hub_tables.specs.declared.rows.KeyRow.{KeyRow}
use Rattle.hub_tables.specs.declared.rows.PrefixRow.{PrefixRow}
use Rattle.hub_pieces.specs.AllRows.{IsRead}
use Rattle.hub_pieces.specs.declared.all_rows.Read.{Read as Found}
use Rattle.hub_audit.specs.Every.{AreRead}
use Rattle.hub_audit.specs.declared.key.Part.TheVariants.{Text}
use Rattle.hub_audit.proofs.EveryRow.{all_pass, every_row}
use Rattle.hub_audit.proofs.Texts.{three_columns, two_columns, by_one}
use Rattle.hub_audit.proofs.Texts.{hubs_text, hubs_select, suppliers_text, suppliers_select, prefixes_text, prefixes_select}

pub hubs_read : (old new : State) (result : Result (Found HubRow) StoreFault)
    → Asks (AreRead shown_hub clean_hub (Text ∷ [])) (λ rows. ⊥) hubs_text [] old new result
    → LooksFor (λ t. IsRead hub_key clean_hub t.hubs) (λ t. ⊥) old new result
hubs_read =
    every_row hub_total hub_row_in shown_hub three_columns by_one [] [] (λ row. refl) clean_hub hub_key (Text ∷ []) (λ row. refl)
    (AreOf hub_kinds 0) (λ row. ⊤) (λ row h. tt)
    (λ x y a b. then_none _ ∙ rank_bytes (column x 1) (column y 1) a.0.0 b.0.0)
    (λ row. true) (λ row it. refl) 18 hubs_select (λ db. refl) (λ t. t.hubs) (λ db. all_pass _)
    (λ s hub. hub_cells s.now hub.schema hub.sound hub.ordered) (λ s hub. (hub_rises s hub).hubs)

pub suppliers_read : (old new : State) (result : Result (Found KeyRow) StoreFault)
    → Asks (AreRead shown_key clean_key (Text ∷ [])) (λ rows. ⊥) suppliers_text [] old new result
    → LooksFor (λ t. IsRead supplier_key clean_key t.keys) (λ t. ⊥) old new result
suppliers_read =
    every_row key_total key_row_in shown_key two_columns by_one [] [] (λ row. refl) clean_key supplier_key (Text ∷ []) (λ row. refl)
    (AreOf key_kinds 0) (λ row. ⊤) (λ row h. tt)
    (λ x y a b. then_none _ ∙ rank_bytes (column x 1) (column y 1) a.0.0 b.0.0)
    (λ row. true) (λ row it. refl) 20 suppliers_select (λ db. refl) (λ t. t.keys) (λ db. all_pass _)
    (λ s hub. key_cells s.now hub.schema hub.sound hub.ordered) (λ s hub. (hub_rises s hub).keys)

pub prefixes_read : (old new : State) (result : Result (Found PrefixRow) StoreFault)
    → Asks (AreRead shown_prefix clean_prefix (Text ∷ [])) (λ rows. ⊥) prefixes_text [] old new result
    → LooksFor (λ t. IsRead prefix_key clean_prefix t.prefixes) (λ t. ⊥) old new result
prefixes_read =
    every_row prefix_total prefix_row_in shown_prefix two_columns by_one [] []
    (λ row. refl) clean_prefix prefix_key (Text ∷ []) (λ row. refl)
    (AreOf prefix_kinds 0) (λ row. ⊤) (λ row h. tt)
    (λ x y a b. then_none _ ∙ rank_bytes (column x 1) (column y 1) a.0.0 b.0.0)
    (λ row. true) (λ row it. refl) 22 prefixes_select (λ db. refl) (λ t. t.prefixes) (λ db. all_pass _)
    (λ s hub. prefix_cells s.now hub.schema hub.sound hub.ordered) (λ s hub. (hub_rises s hub).prefixes)
