-- What is counted of rows that were read.
use Rattle.std.proofs.Common.{◌≡◌, ℕ, Bool, List, length, count_by, Ok, ap, ◌∙◌}
use Rattle.hub_sound.specs.Finding.{RowKey}
use Rattle.hub_tables.specs.Tables.{Tables}
use Rattle.hub_pieces.specs.AllRows.{Tells, IsRead}
use Rattle.hub_verify.specs.Counts.{AreCounts, is_open, is_received, is_untaken}
use Rattle.hub_pieces.specs.declared.all_rows.Read.{Read as Found}
use Rattle.hub_pieces.specs.declared.all_rows.Read.TheVariants.{Rows}
use Rattle.hub_pieces.proofs.Reading.{rows_are}
use Rattle.hub_pieces.proofs.Telling.{follows, then}

module _ {S : Type 0} (content : S → Tables) (honest : S → Type 0) where
  module _ {X : Type 0} (key_of : X → RowKey) (clean : X → Bool) (rows : Tables → List X) (old mid : S) (read : Found X) (xs : List X)
      (is : read ≡ Rows xs) (was_read : Tells content honest (λ t. IsRead key_of clean (rows t)) old mid (Ok read)) where
    pub counted : (n : ℕ) → n ≡ length xs → Tells content honest (λ t n. n ≡ length (rows t)) old mid (Ok n)
    counted n count =
        follows content honest (λ t. IsRead key_of clean (rows t)) (λ t n. n ≡ length (rows t)) old mid read n
        (λ t h. count ∙ ap length (rows_are key_of clean (rows t) read xs is h)) was_read

  pub both : {X Y : Type 0} (one : Tables → X → Type 0) (two : Tables → Y → Type 0) (old mid new : S) (x : X) (y : Y)
      → Tells content honest one old mid (Ok x) → Tells content honest two mid new (Ok y)
      → Tells content honest (λ t y. one t x × two t y) old new (Ok y)
  both one two old mid new x y a b = then content honest one two (λ t y. one t x × two t y) old mid new x (λ t h z it. (h, it)) a (Ok y) b

  abbrev CountsKeys : Tables → ℕ → Type 0
  CountsKeys t n = n ≡ length t.keys

  abbrev CountsOrders : Tables → ℕ → Type 0
  CountsOrders t n = n ≡ length t.orders

  abbrev CountsLines : Tables → ℕ × ℕ → Type 0
  CountsLines t n = (n.0 ≡ length t.lines) × (n.1 ≡ count_by is_open t.lines)

  abbrev CountsPallets : Tables → ℕ × ℕ → Type 0
  CountsPallets t n = (n.0 ≡ length t.pallets) × (n.1 ≡ count_by is_received t.pallets)

  abbrev CountsEntries : Tables → ℕ × ℕ → Type 0
  CountsEntries t n = (n.0 ≡ length t.mail) × (n.1 ≡ count_by is_untaken t.mail)

  abbrev CountsMessages : Tables → ℕ → Type 0
  CountsMessages t n = n ≡ length t.remembered

  pub all_counted : (s0 s1 s2 s3 s4 s5 s6 : S) (a b : ℕ) (c d e : ℕ × ℕ) (f : ℕ)
      → Tells content honest CountsKeys s0 s1 (Ok a) → Tells content honest CountsOrders s1 s2 (Ok b)
      → Tells content honest CountsLines s2 s3 (Ok c)
      → Tells content honest CountsPallets s3 s4 (Ok d) → Tells content honest CountsEntries s4 s5 (Ok e)
      → Tells content honest CountsMessages s5 s6 (Ok f)
      → Tells content honest AreCounts s0 s6 (Ok (record {
        suppliers = a;
        orders = b;
        lines = c.0;
        open_lines = c.1;
        pallets = d.0;
        received_pallets = d.1;
        entries = e.0;
        untaken_entries = e.1;
        remembered = f;
      }))
  all_counted s0 s1 s2 s3 s4 s5 s6 a b c d e f ka kb kc kd ke kf =
      follows content honest (λ t n. CountsKeys t a × (CountsOrders t b × (CountsLines t c × (CountsPallets t d × (CountsEntries t e ×
      CountsMessages t n)))))
      AreCounts s0 s6 f _
      (λ t h. record {
        suppliers = h.0;
        orders = h.1.0;
        lines = h.1.1.0.0;
        open_lines = h.1.1.0.1;
        pallets = h.1.1.1.0.0;
        received_pallets = h.1.1.1.0.1;
        entries = h.1.1.1.1.0.0;
        untaken_entries = h.1.1.1.1.0.1;
        remembered = h.1.1.1.1.1;
      })
      (both CountsKeys (λ t n. CountsOrders t b × (CountsLines t c × (CountsPallets t d × (CountsEntries t e × CountsMessages t n)))) s0 s1
      s6 a f ka
      (both CountsOrders (λ t n. CountsLines t c × (CountsPallets t d × (CountsEntries t e × CountsMessages t n))) s1 s2 s6 b f kb
      (both CountsLines (λ t n. CountsPallets t d × (CountsEntries t e × CountsMessages t n)) s2 s3 s6 c f kc
      (both CountsPallets (λ t n. CountsEntries t e × CountsMessages t n) s3 s4 s6 d f kd
      (both CountsEntries CountsMessages s4 s5 s6 e f ke kf)))))
