-- The lowest value above another, by a query.
use Rattle.std.proofs.Common.{◌≡◌, ℕ, Bool, true, false, inl, inr, Result, List, [], ◌∷◌, map, filter, take, slice_get, Option, Some}
use Rattle.std.proofs.Common.{refl, sym, ap, subst, ◌∙◌, arith}
use Rattle.std.specs.List.{AllByRecursion, list_all}
use Rattle.std.specs.List.Sorted.{IsSorted}
use Rattle.std.specs.declared.cmp.Ordering.{Ordering}
use Rattle.std.specs.declared.cmp.Ordering.TheVariants.{Less, Equal, Greater}
use Rattle.std.specs.Ordering.{is_gt, is_lt, on, ordering_reverse}
use Rattle.std.specs.Cmp.{IsTotalOrder}
use Rattle.std.proofs.lemmas.Cmp.{nat_list_cmp_total}
use Rattle.std.proofs.lemmas.List.Elements.{recursion_from_All}
use Rattle.std.proofs.lemmas.List.Sorted.{IsPermutation-sym, ranks_by, sorted_far}
use Rattle.sqlite_trees.specs.Tree.{Trees}
use Rattle.sqlite_value.specs.declared.keys.Collation.TheVariants.{Binary}
use Rattle.sqlite_value.specs.declared.value.Value.{Value}
use Rattle.sqlite_value.specs.declared.value.Value.TheVariants.{Blob}
use Rattle.sqlite_value.specs.Order.{Row, column}
use Rattle.sqlite_value.proofs.OrderLemmas.{value_cmp-Blob}
use Rattle.sqlite_sql.specs.declared.ops.BinaryOp.TheVariants.{Compare}
use Rattle.sqlite_sql.specs.declared.ops.CompareOp.TheVariants.{Gt}
use Rattle.sqlite_sql.specs.Ops.{is_true, binary}
use Rattle.sqlite_sql.specs.Query.{sort_cmp}
use Rattle.sqlite_sql.specs.Program.{overlay}
use Rattle.sqlite_sql.specs.Term.{col}
use Rattle.sqlite.specs.State.{State}
use Rattle.sql_rows.specs.Cells.{AreOf}
use Rattle.sql_rows.proofs.Answers.{and_true, is_truth}
use Rattle.hub_parties.specs.KeyOrder.{bytes_cmp}
use Rattle.hub_rows.specs.Asks.{Asks}
use Rattle.hub_rows.specs.Shown.{shown_bytes}
use Rattle.hub_reads.proofs.OfUntaken.{map_limited}
use Rattle.hub_reads.proofs.Texts.{one, rising}
use Rattle.hub_rows.proofs.Finding.{passes, FindsRows, finds}
use Rattle.hub_rows.proofs.Listing.{shown_say, sources_have}
use Rattle.hub_rows.proofs.Looking.{Selects, looks_for}
use Rattle.hub_rows.proofs.Ranking.{then_none, rank_bytes}
use Rattle.hub_rows.proofs.Sorting.{listed_moved, permuted_has, sorted_alike, sorted_map}
use Rattle.hub_schema.specs.Cells.{bytes_in}
use Rattle.hub_schema.specs.Rows.{in_key_order, tables_in, order_in, line_in, advice_in, pallet_in, content_in, receipt_in}
use Rattle.hub_schema.specs.Rows.{remembered_in, mail_in}
use Rattle.hub_schema.specs.State.{IsHub, LooksFor}
use Rattle.hub_schema.proofs.Single.{order_kinds, line_kinds, pallet_kinds, content_kinds, receipt_kinds, remembered_kinds, mail_kinds}
use Rattle.hub_schema.proofs.Single.{order_cells, line_cells, advice_cells, pallet_cells, content_cells, receipt_cells}
use Rattle.hub_schema.proofs.Single.{remembered_cells, mail_cells}
use Rattle.hub_sound.proofs.Deciding.{from_filter}
use Rattle.hub_store.specs.Clean.{are_bytes}
use Rattle.hub_store.specs.declared.fault.StoreFault.{StoreFault}
use Rattle.hub_tables.specs.Sets.{Has}
use Rattle.hub_tables.specs.Tables.{Tables}
use Rattle.hub_tables.specs.declared.rows.OrderRow.{OrderRow}
use Rattle.hub_tables.specs.declared.rows.LineRow.{LineRow}
use Rattle.hub_tables.specs.declared.rows.AdviceRow.{AdviceRow}
use Rattle.hub_tables.specs.declared.rows.PalletRow.{PalletRow}
use Rattle.hub_tables.specs.declared.rows.ContentRow.{ContentRow}
use Rattle.hub_tables.specs.declared.rows.ReceiptRow.{ReceiptRow}
use Rattle.hub_tables.specs.declared.rows.RememberedRow.{RememberedRow}
use Rattle.hub_tables.specs.declared.rows.MailRow.{MailRow}
use Rattle.hub_tables.proofs.KindOrders.{order_total, line_total, advice_total, pallet_total, content_total, receipt_total}
use Rattle.hub_tables.proofs.KindOrders.{remembered_total, mail_total}
use Rattle.hub_tables.proofs.Lists.{all_passes}
use Rattle.hub_tables.proofs.Members.{all_of, has_filter, has_map}
use Rattle.hub_pieces.specs.Pieces.{IsNext, values_in}
use Rattle.hub_pieces.specs.declared.piece_kind.PieceKind.{PieceKind}
use Rattle.hub_pieces.specs.declared.piece_kind.PieceKind.TheVariants as pieces
use Rattle.hub_audit.specs.Next.{Any, next_text}
use Rattle.hub_audit.proofs.Texts.{above, next_of}
use Rattle.hub_audit.proofs.Texts.{next_order_select, next_line_select, next_advice_select, next_pallet_select, next_content_select}
use Rattle.hub_audit.proofs.Texts.{next_receipt_select, next_remembered_select, next_mail_select}

-- Cells of bytes.

abbrev IsBlob : Value → Type 0
IsBlob v = (bytes : List ℕ) × (v ≡ Blob bytes)

cell_above : (v : Value) (bytes : List ℕ) → IsBlob v
    → is_true (binary (Compare Gt Binary) v (Blob bytes)) ≡ is_gt (bytes_cmp (bytes_in v) bytes)
unfolding binary
cell_above v bytes it =
    ap (λ w. is_true (binary (Compare Gt Binary) w (Blob bytes))) it.1
    ∙ (is_truth _ ∙ ap is_gt (value_cmp-Blob it.0 bytes))
    ∙ ap (λ w. is_gt (bytes_cmp w bytes)) (sym (ap bytes_in it.1))

greater : (o : Ordering) → is_gt o ≡ true → o ≡ Greater
greater Less h = cc
greater Equal h = cc
greater Greater h = refl

not_less : (o : Ordering) → is_lt o ≡ false → ¬ (o ≡ Less)
not_less Less h e = cc
not_less Equal h e = cc
not_less Greater h e = cc

reversed : (a b : List ℕ) (o : Ordering) → bytes_cmp a b ≡ o → bytes_cmp b a ≡ ordering_reverse o
reversed a b o e = nat_list_cmp_total.antisymm b a ∙ ap ordering_reverse e

-- the element of a list that a mapped one comes from
from_map : {X Y : Type 0} (f : X → Y) (xs : List X) (y : Y) → Has (map f xs) y → (x : X) × Has xs x × (y ≡ f x)
from_map f [] y there = absurd there
from_map f (x ∷ xs) y there = elim there [
  | inl e ↦ (x, inl refl, e)
  | inr later ↦ let found = from_map f xs y later in (found.0, inr found.1, found.2)
]

-- the first of sorted values is the lowest
lowest : (v : List ℕ) (vs : List (List ℕ)) → IsSorted bytes_cmp (v ∷ vs)
    → (other : List ℕ) → Has (v ∷ vs) other → ¬ (bytes_cmp other v ≡ Less)
lowest v vs sorted other there =
    let lt : List ℕ → List ℕ → Bool = λ a b. is_lt (bytes_cmp a b) in
    not_less (bytes_cmp other v)
    (all_of (λ w. is_lt (bytes_cmp w v) ≡ false) (v ∷ vs)
    (recursion_from_All (λ w. is_lt (bytes_cmp w v) ≡ false) (v ∷ vs)
    (λ k d h. sorted_far lt (ranks_by nat_list_cmp_total (λ w. w)) (v ∷ vs) sorted 0 k d (omega arith) h)) other there)

first_of_one : {X : Type 0} (xs : List X) → slice_get (take 1 xs) 0 ≡ slice_get xs 0
first_of_one [] = refl
first_of_one (x ∷ xs) = refl

-- Values are those of some rows, and those above one are sorted.
first_is_next : (value : List ℕ) (values chosen : List (List ℕ))
    → ((v : List ℕ) → Has chosen v → Has values v × (bytes_cmp value v ≡ Less))
    → ((v : List ℕ) → Has values v → bytes_cmp value v ≡ Less → Has chosen v)
    → IsSorted bytes_cmp chosen → IsNext value values (slice_get chosen 0)
first_is_next value values [] come go sorted = λ other there up. go other there up
first_is_next value values (v ∷ vs) come go sorted =
    let first = come v (inl refl) in
    (first.0, first.1, λ other there up. lowest v vs sorted other (go other there up))

-- A kind of row, whose values stand in one column.
module _ {X : Type 0} {cmp : X → X → Ordering} (total : IsTotalOrder cmp) (f : Row → X) (tree k : ℕ) (value_of : X → List ℕ)
    (in_cell : (row : Row) → value_of (f row) ≡ bytes_in (column row k)) (P : Row → Type 0)
    (is_blob : (row : Row) → P row → IsBlob (column row k)) (value : List ℕ) where
  abbrev params : Row
  params = Blob value ∷ []

  abbrev bytes : Row → List ℕ
  bytes row = bytes_in (column row k)

  abbrev is_above : Row → Bool
  is_above row = is_gt (bytes_cmp (bytes row) value)

  passed : (row : Row) → P row → passes (above k) params row ≡ is_above row
  passed row it = and_true _ ∙ cell_above (column row k) value (is_blob row it)

  module _ (stored rows : List Row) (found : FindsRows stored (above k) (col 1 k ∷ []) (rising k ∷ []) one params rows)
      (cells : AllByRecursion P stored) where
    abbrev chosen : List (List ℕ)
    chosen = map bytes found.sources

    told : slice_get (map shown_bytes rows) 0 ≡ slice_get chosen 0
    told =
        ap (λ xs. slice_get (map shown_bytes xs) 0) found.is
        ∙ ap (λ xs. slice_get xs 0) (map_limited shown_bytes (Some 1) _)
        ∙ first_of_one _
        ∙ ap (λ xs. slice_get xs 0) (shown_say bytes shown_bytes (col 1 k ∷ []) params found.sources (λ row. refl))

    typed : AllByRecursion P found.sources
    typed = sources_have total f stored (above k) params found.sources found.same P cells

    sorted : IsSorted bytes_cmp chosen
    sorted =
        sorted_map bytes bytes_cmp found.sources
        (sorted_alike (λ x y. sort_cmp (rising k ∷ []) (params ∷ x ∷ []) (params ∷ y ∷ []))
        (on bytes bytes_cmp) P
        (λ x y a b. then_none _ ∙ rank_bytes (column x k) (column y k) (is_blob x a) (is_blob y b)) found.sources typed found.sorted)

    abbrev all : List X
    all = in_key_order cmp (map f stored)

    come : (v : List ℕ) → Has chosen v → Has (map value_of all) v × (bytes_cmp value v ≡ Less)
    come v there =
        let one = from_map bytes found.sources v there in
        let row = one.0 in
        let filtered = permuted_has found.sources (filter (passes (above k) params) stored)
        (IsPermutation-sym (filter (passes (above k) params) stored) found.sources found.same) row one.1 in
        let here = from_filter (passes (above k) params) stored row filtered in
        let through = all_of (λ row. passes (above k) params row ≡ true) (filter (passes (above k) params) stored)
        (all_passes (passes (above k) params) stored) row filtered in (
          subst (Has (map value_of all)) (in_cell row ∙ sym one.2)
              (has_map value_of all (f row) (permuted_has (map f stored) all (listed_moved cmp (map f stored)) (f row)
              (has_map f stored row here))),
          subst (λ w. bytes_cmp value w ≡ Less) (sym one.2)
              (reversed (bytes row) value Greater (greater (bytes_cmp (bytes row) value)
              (sym (passed row (all_of P stored cells row here)) ∙ through))),
        )

    go : (v : List ℕ) → Has (map value_of all) v → bytes_cmp value v ≡ Less → Has chosen v
    go v there up =
        let shown = from_map value_of all v there in
        let stored_one = from_map f stored shown.0 (permuted_has all (map f stored)
        (IsPermutation-sym (map f stored) all (listed_moved cmp (map f stored))) shown.0 shown.1) in
        let row = stored_one.0 in
        let is : v ≡ bytes row = shown.2 ∙ ap value_of stored_one.2 ∙ in_cell row in
        let over : is_above row ≡ true =
        ap is_gt (reversed value (bytes row) Less (subst (λ w. bytes_cmp value w ≡ Less) is up)) in
        subst (Has chosen) (sym is)
        (has_map bytes found.sources row (permuted_has (filter (passes (above k) params) stored) found.sources found.same row
        (has_filter (passes (above k) params) stored row stored_one.1 (passed row (all_of P stored cells row stored_one.1) ∙ over))))

    next_is : IsNext value (map value_of all) (slice_get (map shown_bytes rows) 0)
    next_is = subst (IsNext value (map value_of all)) (sym told) (first_is_next value (map value_of all) chosen come go sorted)

  module _ {text : List ℕ} {names : List (List ℕ)} (selects : Selects text (next_of tree k) names)
      (plain : (db : Trees) → overlay db [] tree ≡ db tree) (values : Tables → List (List ℕ))
      (is_values : (db : Trees) → map value_of (in_key_order cmp (map f (db tree))) ≡ values (tables_in db))
      (cells : (s : State) → IsHub s → AllByRecursion P (s.now.trees tree)) where
    pub next_row : (old new : State) (result : Result (Option (List ℕ)) StoreFault)
        → Asks (λ rows first. first ≡ slice_get (map shown_bytes rows) 0) (λ rows. list_all are_bytes (map shown_bytes rows) ≡ false) text
        params old new result
        → LooksFor (λ t. IsNext value (values t)) Any old new result
    next_row old new result =
        looks_for selects (λ t. IsNext value (values t)) Any _ _ params old new
        (λ hub rows answer first is.
        subst (IsNext value (values (tables_in old.now.trees))) (sym is)
        (subst (λ vs. IsNext value vs (slice_get (map shown_bytes rows) 0)) (is_values old.now.trees)
        (next_is (old.now.trees tree) rows
        (finds old.now.trees tree (above k) (col 1 k ∷ []) (rising k ∷ []) one params rows (plain old.now.trees) answer)
        (cells old hub))))
        (λ hub rows answer spoilt. tt) result

pub next_looked : (kind : PieceKind) (value : List ℕ) (old new : State) (result : Result (Option (List ℕ)) StoreFault)
    → Asks (λ rows first. first ≡ slice_get (map shown_bytes rows) 0) (λ rows. list_all are_bytes (map shown_bytes rows) ≡ false)
    (next_text kind) (Blob value ∷ []) old new result
    → LooksFor (λ t. IsNext value (values_in kind t)) Any old new result
next_looked pieces.Order value =
    next_row order_total order_in 1 1 (λ (row : OrderRow). row.supplier) (λ row. refl) (AreOf order_kinds 0) (λ row it. it.0) value
    next_order_select (λ db. refl) (values_in pieces.Order) (λ db. refl) (λ s hub. order_cells s.now hub.schema hub.sound hub.ordered)
next_looked pieces.Line value =
    next_row line_total line_in 3 1 (λ (row : LineRow). row.supplier) (λ row. refl) (AreOf line_kinds 0) (λ row it. it.0) value
    next_line_select (λ db. refl) (values_in pieces.Line) (λ db. refl) (λ s hub. line_cells s.now hub.schema hub.sound hub.ordered)
next_looked pieces.Advice value =
    next_row advice_total advice_in 5 1 (λ (row : AdviceRow). row.supplier) (λ row. refl) (AreOf order_kinds 0) (λ row it. it.0) value
    next_advice_select (λ db. refl) (values_in pieces.Advice) (λ db. refl) (λ s hub. advice_cells s.now hub.schema hub.sound hub.ordered)
next_looked pieces.Pallet value =
    next_row pallet_total pallet_in 7 2 (λ (row : PalletRow). row.supplier) (λ row. refl) (AreOf pallet_kinds 0) (λ row it. it.1.0) value
    next_pallet_select (λ db. refl) (values_in pieces.Pallet) (λ db. refl) (λ s hub. pallet_cells s.now hub.schema hub.sound hub.ordered)
next_looked pieces.Content value =
    next_row content_total content_in 10 1 (λ (row : ContentRow). row.sscc) (λ row. refl) (AreOf content_kinds 0) (λ row it. it.0) value
    next_content_select (λ db. refl) (values_in pieces.Content) (λ db. refl) (λ s hub. content_cells s.now hub.schema hub.sound hub.ordered)
next_looked pieces.Receipt value =
    next_row receipt_total receipt_in 12 1 (λ (row : ReceiptRow). row.sscc) (λ row. refl) (AreOf receipt_kinds 0) (λ row it. it.0) value
    next_receipt_select (λ db. refl) (values_in pieces.Receipt) (λ db. refl) (λ s hub. receipt_cells s.now hub.schema hub.sound hub.ordered)
next_looked pieces.Remembered value =
    next_row remembered_total remembered_in 14 1 (λ (row : RememberedRow). row.supplier) (λ row. refl)
    (AreOf remembered_kinds 0) (λ row it. it.0) value
    next_remembered_select (λ db. refl) (values_in pieces.Remembered) (λ db. refl)
    (λ s hub. remembered_cells s.now hub.schema hub.sound hub.ordered)
next_looked pieces.Mail value =
    next_row mail_total mail_in 16 1 (λ (row : MailRow). row.supplier) (λ row. refl) (AreOf mail_kinds 0) (λ row it. it.0) value
    next_mail_select (λ db. refl) (values_in pieces.Mail) (λ db. refl) (λ s hub. mail_cells s.now hub.schema hub.sound hub.ordered)
