-- Proves which lines an advice names, as a set of numbers for each order.
use Rattle.std.proofs.Common.{◌≡◌, ℕ, Bool, true, false, ◌||◌, nat_eq, nat_cmp, Bor, List, [], ◌∷◌, map, Option, Some, None}
use Rattle.std.proofs.Common.{refl, sym, ap, ◌∙◌, inl, inr, arith}
use Rattle.std.specs.Prelude.{Result, Ok, Err, OnOk}
use Rattle.std.specs.BTreeMap.{is_at}
use Rattle.std.specs.BTreeSet.{insert_key}
use Rattle.std.specs.Map.{lookup}
use Rattle.std.proofs.Math.Bool.{or-true}
use Rattle.std.proofs.lemmas.Bool.Decides.{nat_tests}
use Rattle.std.proofs.lemmas.Map.Text.{is_eq-slice_cmp}
use Rattle.edi_base.specs.Seen.{comes_among}
use Rattle.edi_base.proofs.Twice.{number-insert, number_itself, bytes_eq-sym}
use Rattle.edi_goods.specs.declared.despatch.DespatchLine.{DespatchLine}
use Rattle.hub_parties.specs.KeyOrder.{bytes_cmp}
use Rattle.hub_tables.specs.Rows.{same}
use Rattle.hub_tables.proofs.Lists.{decide, same_is}
use Rattle.hub_naming.specs.Orders.{by_number}
use Rattle.hub_naming.specs.Lines.{LinesOfOrders, is_named, names_line, NamesLines, NamesMore}
use Rattle.hub_naming.specs.declared.lines.LinesNamed.{LinesNamed}

same_keys : (keys : List ℕ) → map number_itself keys ≡ keys
same_keys [] = refl
same_keys (key ∷ keys) = ap (λ others. key ∷ others) (same_keys keys)

pub one_more : (n : ℕ) (keys : List ℕ) (k : ℕ) → comes_among nat_eq n (insert_key nat_cmp keys k)
    ≡ (nat_eq n k || comes_among nat_eq n keys)
one_more n keys k =
    ap (comes_among nat_eq n) (sym (same_keys (insert_key nat_cmp keys k)))
    ∙ number-insert n keys k
    ∙ ap (λ others. nat_eq n k || comes_among nat_eq n others) (same_keys keys)

pub itself : (n : ℕ) → nat_eq n n ≡ true
itself n = grind (arith, nat_tests)

-- a line is appended
pub still_named : (old new : LinesNamed) (number : ℕ)
    → new.by_article ≡ old.by_article
    → new.numbers.keys ≡ insert_key nat_cmp old.numbers.keys number
    → (other : Option ℕ) → is_named (Some old) other ≡ true → is_named (Some new) other ≡ true
still_named old new number article keys None named = article ∙ named
still_named old new number article keys (Some other) named =
    ap (comes_among nat_eq other) keys ∙ one_more other old.numbers.keys number
    ∙ ap (λ v. nat_eq other number || v) named ∙ or-true (nat_eq other number)

-- the search for an order
abbrev pub at : List ℕ → Bor (List ℕ) → Bool
at order = is_at (λ key. bytes_cmp order key.now)

-- the lines named of an order replace the earlier ones, and no line is lost
module _ (order : List ℕ) (lines : LinesNamed) (old new : LinesOfOrders)
    (put : lookup (at order) new ≡ Some lines)
    (others : (other : List ℕ) → same other order ≡ false → lookup (at other) new ≡ lookup (at other) old) where
  pub line_put : (number : Option ℕ) → is_named (Some lines) number ≡ true → names_line new order number ≡ true
  line_put number named = ap (λ found. is_named found number) put ∙ named

  pub names_more : ((number : Option ℕ) → is_named (lookup (at order) old) number ≡ true → is_named (Some lines) number ≡ true)
      → NamesMore old new
  names_more more other number named =
      elim (decide (same other order)) [
        | inl its ↦
            let is = same_is other order its in
            ap (λ o. names_line new o number) is ∙ line_put number (more number (sym (ap (λ o. names_line old o number) is) ∙ named))
        | inr apart ↦ ap (λ found. is_named found number) (others other apart) ∙ named
      ]

-- all other keys of a map keep their values
pub others_kept : (key : Bor (List ℕ)) (old new : LinesOfOrders)
    → ((other : Bor (List ℕ)) → is_at (by_number key) other ≡ false
    → lookup (is_at (by_number other)) new ≡ lookup (is_at (by_number other)) old)
    → (other : List ℕ) → same other key.now ≡ false → lookup (at other) new ≡ lookup (at other) old
others_kept key old new keeps other apart =
    keeps (record key { now = other }) (is_eq-slice_cmp key.now other ∙ bytes_eq-sym key.now other ∙ apart)

-- lines that were named stay named
pub all_named_later : (old new : LinesOfOrders) (lines : List DespatchLine) → NamesMore old new → NamesLines old lines
    → NamesLines new lines
all_named_later old new [] more all = tt
all_named_later old new (line ∷ lines) more all = (more line.order line.order_line all.0, all_named_later old new lines more all.1)

-- what holds at Ok implies what follows from it
pub on_ok : {X E : Type 0} {A B : Type 0} (r : Result X E) → (A → B) → OnOk r A → OnOk r B
on_ok (Ok x) f a = f a
on_ok (Err e) f a = tt
