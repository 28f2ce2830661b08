-- What is gathered of suppliers.
use Rattle.std.proofs.Common.{◌≡◌, ◌⊎◌, ℕ, ◌+◌, ◌<◌, ◌≤◌, ◌==◌, Bool, true, false, cond, inl, inr, List, [], ◌∷◌, ◌++◌, drop}
use Rattle.std.proofs.Common.{length, get_or, filter, map, Option, None, Some, Ok, refl, sym, ◌∙◌, ap, subst, append_assoc, append-nil}
use Rattle.std.specs.List.{list_all, list_any}
use Rattle.std.proofs.lemmas.List.{drop_all}
use Rattle.hub_sound.proofs.Deciding.{true_all}
use Rattle.hub_sound.proofs.Settling.{rest_from}
use Rattle.hub_sound.proofs.Gathering.{tells_supplier}
use Rattle.hub_sound.specs.Goods.{gathered, goods_of, TellsSettled, TellsOfSupplier}
use Rattle.hub_sound.specs.Showing.{IsSettled}
use Rattle.hub_sound.specs.declared.finding.Finding.{Finding}
use Rattle.hub_store.specs.Clean.{are_clean, clean_content, clean_line, clean_pallet}
use Rattle.hub_tables.specs.Rows.{same}
use Rattle.hub_tables.specs.Sets.{Has, Rising}
use Rattle.hub_tables.specs.State.{contents_of}
use Rattle.hub_tables.specs.Tables.{Tables, view}
use Rattle.hub_tables.specs.declared.rows.ContentRow.{ContentRow}
use Rattle.hub_tables.specs.declared.rows.LineRow.{LineRow}
use Rattle.hub_tables.specs.declared.rows.PalletRow.{PalletRow}
use Rattle.hub_tables.proofs.Lists.{same_if, same_is}
use Rattle.hub_tables.proofs.Members.{all_if, any_if, has_map}
use Rattle.hub_pieces.specs.AllRows.{Tells}
use Rattle.hub_verify.specs.Goods.{LinesAreSettled, PalletsAreSettled, ShowsMisfit, TellsOfAll}
use Rattle.hub_pieces.specs.Pieces.{piece, values_in}
use Rattle.hub_pieces.specs.Walk.{Told}
use Rattle.hub_pieces.specs.declared.piece_kind.PieceKind.TheVariants.{Line, Pallet}
use Rattle.hub_pieces.proofs.Telling.{follows, then}

-- Contents.

gather_next : (t : Tables) (ps : List PalletRow) (i : ℕ) (p : PalletRow) → i < length ps → p ≡ get_or ps i p
    → (all rows more : List ContentRow)
    → rows ≡ contents_of t p.sscc → more ≡ all ++ rows
    → gathered t ps ≡ all ++ gathered t (drop i ps)
    → gathered t ps ≡ more ++ gathered t (drop (i + 1) ps)
gather_next t ps i p inside at all rows more is grown so_far =
    so_far ∙ ap (λ zs. all ++ gathered t zs) (rest_from ps i p inside at)
    ∙ sym append_assoc_here
    ∙ sym (ap (λ zs. zs ++ gathered t (drop (i + 1) ps)) (grown ∙ ap (λ zs. all ++ zs) is))
  where
    append_assoc_here : (all ++ contents_of t p.sscc) ++ gathered t (drop (i + 1) ps)
        ≡ all ++ (contents_of t p.sscc ++ gathered t (drop (i + 1) ps))
    append_assoc_here = rw append_assoc refl

module _ {S : Type 0} (content : S → Tables) (honest : S → Type 0) where
  abbrev pub GatheredSoFar : List PalletRow → ℕ → List ContentRow → Tables → Unit {0} → Type 0
  GatheredSoFar ps i all t u = gathered t ps ≡ all ++ gathered t (drop i ps)

  pub gather_more : (ps : List PalletRow) (i : ℕ) (p : PalletRow) → i < length ps → p ≡ get_or ps i p
      → (old mid new : S) (all rows more : List ContentRow) → more ≡ all ++ rows → (digits : List ℕ) → digits ≡ p.sscc
      → Tells content honest (GatheredSoFar ps i all) old mid (Ok tt)
      → Tells content honest (λ t rows. (rows ≡ piece (λ (row : ContentRow). row.sscc) digits t.contents)
      × (list_all clean_content rows ≡ true)) mid new (Ok rows)
      → Tells content honest (GatheredSoFar ps (i + 1) more) old new (Ok tt)
  gather_more ps i p inside at old mid new all rows more grown digits sscc so_far looked =
      follows content honest (λ t found. GatheredSoFar ps i all t tt × (found ≡ contents_of t p.sscc))
      (GatheredSoFar ps (i + 1) more) old new rows tt
      (λ t h. gather_next t ps i p inside at all rows more h.1 grown h.0)
      (then content honest (GatheredSoFar ps i all)
      (λ t rows. (rows ≡ piece (λ (row : ContentRow). row.sscc) digits t.contents) × (list_all clean_content rows ≡ true))
      (λ t found. GatheredSoFar ps i all t tt × (found ≡ contents_of t p.sscc)) old mid new tt
      (λ t h found is. (h, is.0 ∙ ap (contents_of t) sscc)) so_far (Ok rows) looked)

  pub gather_ends : (ps : List PalletRow) (i : ℕ) → length ps ≤ i → (old mid : S) (all : List ContentRow)
      → Tells content honest (GatheredSoFar ps i all) old mid (Ok tt)
      → Tells content honest (λ t rows. rows ≡ gathered t ps) old mid (Ok all)
  gather_ends ps i over old mid all =
      follows content honest (GatheredSoFar ps i all) (λ t rows. rows ≡ gathered t ps) old mid tt all
      (λ t h. sym (h ∙ ap (λ zs. all ++ gathered t zs) (drop_all i ps over) ∙ append-nil all))

-- One supplier.

module _ {S : Type 0} (content : S → Tables) (honest : S → Type 0) (gln : List ℕ) where
  abbrev pub OfSupplier : Tables → Option Finding → Type 0
  OfSupplier t found = Rising t → are_clean t ≡ true → TellsOfSupplier gln t found

  abbrev pub AreLines : Tables → List LineRow → Type 0
  AreLines t rows = (rows ≡ (view gln t).lines) × (list_all clean_line rows ≡ true)

  abbrev pub ArePallets : Tables → List PalletRow → Type 0
  ArePallets t rows = (rows ≡ (view gln t).pallets) × (list_all clean_pallet rows ≡ true)

  module _ (old one two new : S) (lines : List LineRow) (pallets : List PalletRow) (contents : List ContentRow)
      (lines_slice : List LineRow) (pallets_slice : List PalletRow) (contents_slice : List ContentRow) (found : Option Finding)
      (ls : lines_slice ≡ lines) (ps : pallets_slice ≡ pallets) (cs : contents_slice ≡ contents) where
    abbrev AreGathered : Tables → List ContentRow → Type 0
    AreGathered t rows = rows ≡ gathered t pallets_slice

    abbrev OfPallets : Tables → List ContentRow → Type 0
    OfPallets t rows = ArePallets t pallets × AreGathered t rows

    abbrev OfAll : Tables → List ContentRow → Type 0
    OfAll t rows = AreLines t lines × OfPallets t rows

    pub misfit_told : Tells content honest AreLines old one (Ok lines)
        → Tells content honest ArePallets one two (Ok pallets)
        → Tells content honest AreGathered two new (Ok contents)
        → (list_all clean_line lines_slice ≡ true → TellsSettled (goods_of lines_slice contents_slice) found)
        → Tells content honest OfSupplier old new (Ok found)
    misfit_told a b c misfit =
        follows content honest OfAll OfSupplier old new contents found
        (λ t h rising clean.
        let of_lines : lines_slice ≡ (view gln t).lines = ls ∙ h.0.0 in
        let of_contents : contents_slice ≡ gathered t (view gln t).pallets =
        cs ∙ h.1.1 ∙ ap (gathered t) (ps ∙ h.1.0.0) in
        tells_supplier gln t rising found
        (subst (λ xs. TellsSettled (goods_of xs (gathered t (view gln t).pallets)) found) of_lines
        (subst (λ ys. TellsSettled (goods_of lines_slice ys) found) of_contents
        (misfit (ap (list_all clean_line) ls ∙ h.0.1)))))
        (then content honest AreLines OfPallets OfAll old one new lines (λ t h rows it. (h, it)) a (Ok contents)
        (then content honest ArePallets AreGathered OfPallets one two new pallets (λ t h rows it. (h, it)) b (Ok contents) c))

  -- as a walk takes it
  abbrev pub WithLines : Tables → Option Finding → Type 0
  WithLines t = Told (Rising t → are_clean t ≡ true → IsSettled (view gln t)) (ShowsMisfit t)

  abbrev pub WithoutLines : Tables → Option Finding → Type 0
  WithoutLines t = Told (Rising t → are_clean t ≡ true → (view gln t).lines ≡ [] → IsSettled (view gln t)) (ShowsMisfit t)

  pub with_lines_told : (old new : S) (found : Option Finding) → Tells content honest OfSupplier old new (Ok found)
      → Tells content honest WithLines old new (Ok found)
  with_lines_told old new found = follows content honest OfSupplier WithLines old new found found (λ t. by t found)
    where
      by : (t : Tables) (f : Option Finding) → OfSupplier t f → WithLines t f
      by t None h = h
      by t (Some f) h = h

  pub without_lines_told : (old mid new : S) (lines : List LineRow) (found : Option Finding)
      → Tells content honest AreLines old mid (Ok lines) → Tells content honest OfSupplier mid new (Ok found)
      → Tells content honest WithoutLines old new (Ok found)
  without_lines_told old mid new lines found a =
      then content honest AreLines OfSupplier WithoutLines old mid new lines (λ t h f it. by t f it) a (Ok found)
    where
      by : (t : Tables) (f : Option Finding) → OfSupplier t f → WithoutLines t f
      by t None h = λ rising clean none. h rising clean
      by t (Some f) h = h

  pub lines_told : (old mid : S) (lines : List LineRow) → (length lines == 0) ≡ false
      → Tells content honest AreLines old mid (Ok lines) → Tells content honest WithoutLines old mid (Ok None)
  lines_told old mid lines some =
      follows content honest AreLines WithoutLines old mid lines None
      (λ t h rising clean none. absurd (let clash : true ≡ false = sym (ap (λ xs. length xs == 0) (h.0 ∙ none)) ∙ some in cc))

-- All suppliers.

settled_of : {X : Type 0} (t : Tables) (supplier : X → List ℕ) (rows : List X) (glns : List (List ℕ))
    → ((x : X) → Has rows x → Has glns (supplier x))
    → list_all (λ row. list_any (same (supplier row)) glns) rows ≡ true
settled_of t supplier rows glns there =
    true_all (λ row. list_any (same (supplier row)) glns) rows
    (all_if (λ row. list_any (same (supplier row)) glns ≡ true) rows
    (λ x here. any_if (same (supplier x)) glns (supplier x) (there x here) (same_if (supplier x) (supplier x) refl)))

has_left : {X : Type 0} (xs ys : List X) (x : X) → Has xs x → Has (xs ++ ys) x
has_left [] ys x there = absurd there
has_left (z ∷ xs) ys x there = elim there [ inl e ↦ inl e | inr later ↦ inr (has_left xs ys x later) ]

has_right : {X : Type 0} (xs ys : List X) (x : X) → Has ys x → Has (xs ++ ys) x
has_right [] ys x there = there
has_right (z ∷ xs) ys x there = inr (has_right xs ys x there)

has_either : {X : Type 0} (xs ys : List X) (x : X) → Has (xs ++ ys) x → Has xs x ⊎ Has ys x
has_either [] ys x there = inr there
has_either (z ∷ xs) ys x there = elim there [
  | inl e ↦ inl (inl e)
  | inr later ↦ elim (has_either xs ys x later) [ inl early ↦ inl (inr early) | inr late ↦ inr late ]
]

-- rows of a supplier are none, or the supplier is that of one of them
own_or_none : {X : Type 0} (supplier : X → List ℕ) (gln : List ℕ) (rows : List X)
    → (filter (λ row. same (supplier row) gln) rows ≡ []) ⊎ Has (map supplier rows) gln
own_or_none supplier gln [] = inl refl
own_or_none supplier gln (x ∷ xs) = by (own_or_none supplier gln xs) (same (supplier x) gln) refl
  where
    by : (filter (λ row. same (supplier row) gln) xs ≡ []) ⊎ Has (map supplier xs) gln → (b : Bool) → same (supplier x) gln ≡ b
        → (filter (λ row. same (supplier row) gln) (x ∷ xs) ≡ []) ⊎ Has (map supplier (x ∷ xs)) gln
    by rest true e = inr (inl (sym (same_is (supplier x) gln e)))
    by rest false e = elim rest [
      | inl none ↦ inl (ap (λ b. cond b (x ∷ filter (λ row. same (supplier row) gln) xs)
          (filter (λ row. same (supplier row) gln) xs)) e ∙ none)
      | inr there ↦ inr (inr there)
    ]

module _ {S : Type 0} (content : S → Tables) (honest : S → Type 0) where
  abbrev pub Goods : Tables → Option Finding → Type 0
  Goods t found = Rising t → are_clean t ≡ true → TellsOfAll t found

  pub lines_misfit : (old new : S) (o : Option Finding) (f : Finding) → o ≡ Some f
      → Tells content honest LinesAreSettled old new (Ok o) → Tells content honest Goods old new (Ok (Some f))
  lines_misfit old new o f some = follows content honest LinesAreSettled Goods old new o (Some f)
      (λ t h. subst (LinesAreSettled t) some h)

  module _ (t : Tables) (lines : (gln : List ℕ) → Has (values_in Line t) gln → Rising t → are_clean t ≡ true → IsSettled (view gln t))
      (pallets : (gln : List ℕ) → Has (values_in Pallet t) gln → Rising t → are_clean t ≡ true → (view gln t).lines ≡ []
      → IsSettled (view gln t)) (rising : Rising t) (clean : are_clean t ≡ true) where
    abbrev glns : List (List ℕ)
    glns = values_in Line t ++ values_in Pallet t

    of_pallet : (gln : List ℕ) → Has (values_in Pallet t) gln → IsSettled (view gln t)
    of_pallet gln there = elim (own_or_none (λ (row : LineRow). row.supplier) gln t.lines) [
      | inl none ↦ pallets gln there rising clean none
      | inr has ↦ lines gln has rising clean
    ]

    settled : TellsOfAll t None
    settled = (
      glns,
      record {
        lines = settled_of t (λ (row : LineRow). row.supplier) t.lines glns
            (λ x there. has_left (values_in Line t) (values_in Pallet t) x.supplier
            (has_map (λ (row : LineRow). row.supplier) t.lines x there));
        pallets = settled_of t (λ (row : PalletRow). row.supplier) t.pallets glns
            (λ x there. has_right (values_in Line t) (values_in Pallet t) x.supplier
            (has_map (λ (row : PalletRow). row.supplier) t.pallets x there));
      },
      all_if (λ gln. IsSettled (view gln t)) glns (λ gln there.
          elim (has_either (values_in Line t) (values_in Pallet t) gln there) [
            | inl line ↦ lines gln line rising clean
            | inr pallet ↦ of_pallet gln pallet
          ]),
    )

  pub goods_told : (old mid new : S) (o : Option Finding) → o ≡ None → (found : Option Finding)
      → Tells content honest LinesAreSettled old mid (Ok o) → Tells content honest PalletsAreSettled mid new (Ok found)
      → Tells content honest Goods old new (Ok found)
  goods_told old mid new o none found a b =
      then content honest LinesAreSettled PalletsAreSettled Goods old mid new o
      (λ t h f it. by t (subst (LinesAreSettled t) none h) f it) a (Ok found) b
    where
      by : (t : Tables) → LinesAreSettled t None → (f : Option Finding) → PalletsAreSettled t f → Goods t f
      by t lines None pallets = settled t lines pallets
      by t lines (Some f) it = it
