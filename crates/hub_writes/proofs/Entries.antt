-- Proves the SQL statements for mailbox entries.
use Rattle.std.proofs.Common.{◌≡◌, ℕ, ℤ, pos, ◌==◌, ◌&&◌, true, ap₂, ◌∙◌, List, [], ◌∷◌, codes, refl}
use Rattle.std.proofs.lemmas.Bool.{and_parts}
use Rattle.sqlite_value.specs.declared.value.Value.TheVariants.{Null, Int}
use Rattle.sqlite_value.specs.declared.keys.Collation.TheVariants.{Binary}
use Rattle.sqlite_value.specs.Order.{Row, column}
use Rattle.sqlite_sql.specs.declared.ops.BinaryOp.TheVariants.{Compare}
use Rattle.sqlite_sql.specs.declared.ops.CompareOp.TheVariants.{Eq}
use Rattle.sqlite_sql.specs.Term.{Term, lit, col, op2}
use Rattle.sqlite_schema.specs.declared.command.Source.TheVariants.{Values}
use Rattle.sqlite_schema.specs.declared.command.Command.TheVariants.{Insert, Update}
use Rattle.sqlite_tied.specs.Compute.{everything}
use Rattle.sqlite.specs.Listing.{understood}
use Rattle.sql_rows.specs.Cells.{AreOf}
use Rattle.sql_rows.proofs.Answers.{and_true}
use Rattle.sql_rows.proofs.Inserts.{cast_null, cast_int}
use Rattle.sql_rows.proofs.Updates.{one_table}
use Rattle.hub_tables.specs.Rows.{same, mail_cmp, same_mail}
use Rattle.hub_tables.specs.declared.change.Change.TheVariants.{AddMail, SetMail}
use Rattle.hub_tables.specs.declared.rows.MailRow.{MailRow}
use Rattle.hub_tables.proofs.KindOrders.{mail_total, mail_set}
use Rattle.hub_tables.proofs.Lists.{same_is}
use Rattle.hub_schema.specs.Rows.{mail_in}
use Rattle.hub_schema.specs.Schema.{mail_table}
use Rattle.hub_schema.proofs.Single.{mail_kinds, mail_cells}
use Rattle.hub_writes.specs.Mail as spec
use Rattle.hub_writes.proofs.Adds.{AddsRow, IsTied, adds}
use Rattle.hub_writes.proofs.Alters.{ReadsAs}
use Rattle.hub_writes.proofs.Keys.{agreeing, bytes_are, number_is, number_shown, number_same, bytes_equal, number_equal}
use Rattle.hub_writes.proofs.RowKinds.{StoredKind}
use Rattle.hub_writes.proofs.Sets.{Sets, becomes, passes, sets}

abbrev pub mail_kind : StoredKind MailRow
mail_kind = record {
  cmp = mail_cmp;
  total = mail_total;
  read = mail_in;
  place = 8;
  table = mail_table;
  found = refl;
  stored = λ _. refl;
  later = refl;
  typed = mail_cells;
  rows = λ t. t.mail;
  with_rows = λ t rows. record t { mail = rows };
  set = λ _ _. refl;
  held = λ _. refl;
  shows = λ _ _. refl;
  rises = λ _ rising. rising.mail;
}

abbrev pub add_mail : List ℕ
add_mail = codes
    "INSERT INTO mail (supplier, number, moment, decimal, kind, document, body, taken) VALUES (?1, ?2, ?3, ?4, ?5, ?6, ?7, ?8)"

abbrev terms : List Term
terms = lit Null ∷ col 0 0 ∷ col 0 1 ∷ col 0 2 ∷ col 0 3 ∷ col 0 4 ∷ col 0 5 ∷ col 0 6 ∷ col 0 7 ∷ []

add_mail_is : ReadsAs add_mail (Insert 8 (Values terms 9))
unfolding understood everything
add_mail_is = (refl, (refl, refl))

abbrev pub set_mail : List ℕ
set_mail = codes
    "UPDATE mail SET moment = ?3, decimal = ?4, kind = ?5, document = ?6, body = ?7, taken = ?8 WHERE supplier = ?1 AND number = ?2"

-- the row has the key
abbrev tests : List Term
tests = op2 (Compare Eq Binary) (col 1 1) (col 0 0) ∷ op2 (Compare Eq Binary) (col 1 2) (col 0 1) ∷ []

-- its row number, and the new values of the columns
abbrev shows : List Term
shows = col 1 0 ∷ col 1 0 ∷ col 1 1 ∷ col 1 2 ∷ col 0 2 ∷ col 0 3 ∷ col 0 4 ∷ col 0 5 ∷ col 0 6 ∷ col 0 7 ∷ []

set_mail_is : ReadsAs set_mail (Update 8 (record { lets = []; body = one_table 16 (λ _. refl) tests shows [] }))
unfolding understood everything
set_mail_is = (refl, (refl, refl))

module _ (row : MailRow) where
  abbrev pub cells : Row
  cells = spec.cells row

  module _ (low : spec.IsLowMail row) where
    read_back : (n : ℤ) → mail_in (Int n ∷ cells) ≡ row
    read_back n = rw (
      number_shown row.number low.0,
      number_shown row.moment low.1,
      number_shown row.decimal low.2,
      number_shown row.kind low.3,
      number_shown row.taken low.4,
    )

    tied : IsTied mail_kind row cells
    tied n r typed = (
      λ e.
          let parts = agreeing (1 ∷ 2 ∷ []) r (Int n ∷ cells) e in
          let supplier = bytes_are (column r 1) row.supplier typed.0 parts.0 in
          let number = number_is (column r 2) row.number low.0 typed.1.0 parts.1.0 in
          λ i. mail_cmp (record (mail_in r) { supplier = supplier i; number = number i }) row,
      tt,
    )

    pub adds_mail : AddsRow (AddMail row) add_mail cells
    adds_mail =
        adds mail_kind (AddMail row) row cells add_mail terms 9 add_mail_is (λ t. refl)
        (λ t. refl) (λ db. rw (
          cast_null,
          cast_int (pos row.number),
          cast_int (pos row.moment),
          cast_int (pos row.decimal),
          cast_int (pos row.kind),
          cast_int (pos row.taken),
        )) read_back tied

    passes_is : (r : Row) → AreOf mail_kinds 0 r → passes mail_kind tests shows cells r ≡ same_mail row (mail_in r)
    passes_is r typed = ap₂ ◌&&◌ (bytes_equal (column r 1) row.supplier typed.0)
        (and_true _ ∙ number_equal (column r 2) row.number low.0 typed.1.0)

    becomes_is : (r : Row) → AreOf mail_kinds 0 r → same_mail row (mail_in r) ≡ true
        → mail_in (becomes mail_kind tests shows cells r) ≡ row
    becomes_is r typed e =
        let p1 = and_parts (same (mail_in r).supplier row.supplier) (((mail_in r).number == row.number)) e in
        let e1 = same_is (mail_in r).supplier row.supplier p1.0 in
        let e2 : (mail_in r).number ≡ row.number = number_same _ _ p1.1 in
        let placed : mail_in (becomes mail_kind tests shows cells r)
        ≡ record row { supplier = (mail_in r).supplier; number = (mail_in r).number } = rw (
          typed.1.0.1,
          cast_int (typed.1.0.0),
          cast_int (pos row.moment),
          number_shown row.moment low.1,
          cast_int (pos row.decimal),
          number_shown row.decimal low.2,
          cast_int (pos row.kind),
          number_shown row.kind low.3,
          cast_int (pos row.taken),
          number_shown row.taken low.4,
        ) in
        placed ∙ (λ i. record row { supplier = e1 i; number = e2 i })

    pub sets_mail : Sets (SetMail row) set_mail cells
    sets_mail =
        sets mail_kind tests shows cells (SetMail row) row (same_mail row) set_mail set_mail_is
        (λ t. and_true _) (λ t. refl) (mail_set row) (λ r. (refl, refl)) passes_is becomes_is
