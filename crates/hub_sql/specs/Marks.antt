-- Defines the mark of a supplier: a number up to which all entries of its mailbox are taken.
use Rattle.std.specs.Prelude.{◌≡◌, ◌⊎◌, ℕ, ◌-◌, ◌+◌, ◌≤◌, ◌==◌, nat_le, true, not, ◌&&◌, List, [], ◌∷◌, if◌then◌else◌}
use Rattle.std.specs.BTreeMap.{BTreeMap, btree_map_len, get}
use Rattle.std.specs.Cmp.Lexicographic.{slice_cmp}
use Rattle.std.specs.List.{AllByRecursion}
use Rattle.std.specs.Option.{is_some, unwrap_or}
use Rattle.std.specs.Ordering.{nat_cmp}
use Rattle.edi_envelope.specs.Mail.{last_number}
use Rattle.hub_store.specs.declared.mail.MailHead.{MailHead}
use Rattle.hub_tables.specs.Rows.{same}
use Rattle.hub_tables.specs.State.{is_taken}
use Rattle.hub_tables.specs.Tables.{Tables}
use Rattle.hub_tables.specs.declared.change.Change.{Change}
use Rattle.hub_tables.specs.declared.change.Change.TheVariants.{AddMail, SetMail}
use Rattle.hub_tables.specs.declared.rows.MailRow.{MailRow}

-- if this is an entry of the supplier with a number from 1 up to this one, it is taken
abbrev pub IsTakenUpTo : List ℕ → ℕ → MailRow → Type 0
IsTakenUpTo supplier number entry =
    same entry.supplier supplier ≡ true → 1 ≤ entry.number → entry.number ≤ number → is_taken entry ≡ true

-- the supplier's entries are taken up to this number
abbrev pub TakenUpTo : Tables → List ℕ → ℕ → Type 0
TakenUpTo t supplier number = AllByRecursion (IsTakenUpTo supplier number) t.mail

-- a number for each supplier; 0 if none is kept
abbrev pub Marks : Type 0
Marks = BTreeMap (List ℕ) ℕ

abbrev pub mark_of : Marks → List ℕ → ℕ
mark_of marks supplier = unwrap_or (get (slice_cmp nat_cmp) marks supplier) 0

-- each supplier's entries are taken up to its mark
pub record TakenUpToMarks (t : Tables) (marks : Marks) : Type 0 where
  pub each : (supplier : List ℕ) → TakenUpTo t supplier (mark_of marks supplier)

-- where a list above a number may begin, since the entries before are taken
abbrev pub list_start : Marks → List ℕ → ℕ → ℕ
list_start marks supplier number = if nat_le number (mark_of marks supplier) then mark_of marks supplier else number

-- the greatest number of marks that are kept
abbrev pub most_marks : ℕ
most_marks = 1_000

-- one supplier's mark is set to this, and the others stay
abbrev pub IsSet : Marks → List ℕ → ℕ → Marks → Type 0
IsSet old supplier mark new =
    (other : List ℕ) → mark_of new other ≡ (if same supplier other then mark else mark_of old other)

-- the number up to which entries are taken if a list from the mark shows these: up to the first of them; if there are
-- none, all entries, unless the list was to have none
abbrev pub shown_mark : List MailHead → ℕ → ℕ → ℕ
shown_mark [] limit mark = if limit == 0 then mark else last_number
shown_mark (head ∷ heads) limit mark = head.number - 1

-- each mark is as it was, or is forgotten
abbrev pub Forgets : Marks → Marks → Type 0
Forgets old new = (other : List ℕ) → (mark_of new other ≡ mark_of old other) ⊎ (mark_of new other ≡ 0)

-- each mark is as it was, or is forgotten, or is the supplier's and has this number
abbrev pub KeepsMarks : Marks → List ℕ → ℕ → Marks → Type 0
KeepsMarks old supplier mark new =
    (other : List ℕ) → (mark_of new other ≡ mark_of old other) ⊎ ((mark_of new other ≡ 0)
    ⊎ ((same supplier other ≡ true) × (mark_of new other ≡ mark)))

-- each mark is as it was, or is forgotten, or is the supplier's and set to what a list shows that began at the mark or
-- before it
abbrev pub Notes : Marks → List ℕ → ℕ → List MailHead → ℕ → Marks → Type 0
Notes old supplier number heads limit new =
    (other : List ℕ) → (mark_of new other ≡ mark_of old other) ⊎ ((mark_of new other ≡ 0)
    ⊎ ((same supplier other ≡ true) × (number ≤ mark_of old supplier)
    × (mark_of new other ≡ shown_mark heads limit (mark_of old supplier))))

-- how many marks there are once the supplier has one
abbrev pub count_with : Marks → List ℕ → ℕ
count_with marks supplier =
    btree_map_len marks + (if is_some (get (slice_cmp nat_cmp) marks supplier) then 0 else 1)

-- a supplier's mark with this entry among the rows: below the entry, if it is the supplier's and not taken
abbrev pub mark_with : List ℕ → MailRow → ℕ → ℕ
mark_with supplier entry mark =
    if same entry.supplier supplier && (not (is_taken entry) && nat_le entry.number mark) then entry.number - 1 else mark

-- a supplier's mark after a change
abbrev pub mark_after : List ℕ → Change → ℕ → ℕ
mark_after supplier (AddMail entry) mark = mark_with supplier entry mark
mark_after supplier (SetMail entry) mark = mark_with supplier entry mark
mark_after supplier change mark = mark

-- after changes, one after another
abbrev pub mark_after_all : List ℕ → List Change → ℕ → ℕ
mark_after_all supplier [] mark = mark
mark_after_all supplier (change ∷ changes) mark = mark_after_all supplier changes (mark_after supplier change mark)
