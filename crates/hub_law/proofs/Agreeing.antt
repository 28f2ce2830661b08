-- Shows what one GLN sees and which replies it gets in a run, and in two runs that agree on it.
use Rattle.std.proofs.Common.{◌≡◌, ℕ, List, [], ◌∷◌, ◌++◌, length, slice_get, take, Some, refl, sym, ◌∙◌, ap, subst}
use Rattle.std.proofs.Math.Seq.{take-append_seam}
use Rattle.std.proofs.lemmas.List.{append_assoc}
use Rattle.hub_parties.specs.KeyOrder.{Rises}
use Rattle.hub_parties.specs.Rows.{Parties}
use Rattle.hub_parties.specs.declared.row.SupplierRow.{SupplierRow}
use Rattle.hub_tables.specs.Register.{HoldsRegister, suppliers_of, register_of, parties_in, row_at}
use Rattle.hub_tables.specs.Rows.{hub_cmp}
use Rattle.hub_tables.specs.Sets.{Rising, SameRows}
use Rattle.hub_tables.specs.Tables.{Tables, view}
use Rattle.hub_tables.proofs.Enrolling.{own_row}
use Rattle.hub_tables.proofs.Sets.{rows_are_one}
use Rattle.hub_rules.specs.Laws.{SoundHub, SoundUnder, PartiesRise}
use Rattle.hub_rules.specs.Sound.{Sound}
use Rattle.hub_rules.proofs.Rising.{view_rises, all_rise, rising_from, parties_seen}
use Rattle.hub_law.specs.Alone.{items_of_input, items, fold}
use Rattle.hub_law.specs.Laws.{IsOther, AsksStatus, alone, own_report, reply_between}
use Rattle.hub_law.specs.Machine.{Inputs, step_as, shared_step, shared_run, replies_to}
use Rattle.hub_law.specs.Mark.{Mark, Whole}
use Rattle.hub_law.specs.Requests.{report, retailer_request}
use Rattle.hub_requests.specs.declared.request.Input.{Input}
use Rattle.hub_law.proofs.Going.{run_goes, retailer_stays}
use Rattle.hub_law.proofs.Runs.{whole_run}

-- the status that the retailer gets is the text of what the GLN sees
status_seen : (gln : List ℕ) (t : Tables) (input : Input)
    → AsksStatus gln t input
    → (shared_step t input Whole).0 ≡ own_report gln (view gln t)
status_seen gln t input asked =
    ap (λ role. (step_as (register_of t) role (row_at input.caller t) input Whole t).0) asked.retailers
    ∙ ap (λ request. (retailer_request (register_of t) input.moment Whole request t).0) asked.asks
    ∙ ap (λ o. report o (view gln t)) (sym (own_row gln t))

-- the replies of a run are those to its inputs, in their order
pub reply_at : (t : Tables) (before : Inputs) (input : Input) (mark : Mark) (later : Inputs)
    → slice_get (shared_run t (before ++ (input, mark) ∷ later)).0 (length before)
    ≡ Some (shared_step (shared_run t before).1 input mark).0
reply_at t [] input mark later = refl
reply_at t ((first, first_mark) ∷ before) input mark later = reply_at (shared_step t first first_mark).1 before input mark later

status_between : (gln : List ℕ) (t : Tables) (before : Inputs) (input : Input) (later : Inputs)
    → SoundHub t
    → AsksStatus gln t input
    → reply_between t before input later ≡ Some (own_report gln (view gln (shared_run t before).1))
status_between gln t before input later here asked =
    let goes = run_goes before t here in
    reply_at t before input Whole later
    ∙ ap (λ reply. Some reply) (status_seen gln (shared_run t before).1 input (record {
      retailers = retailer_stays t (shared_run t before).1 input.caller input.key goes.sound goes.hubs asked.retailers;
      asks = asked.asks;
    }))

pub status_is_own : (gln : List ℕ) (t : Tables) (before later : Inputs) (input : Input)
    → SoundHub t
    → IsOther gln t
    → AsksStatus gln t input
    → reply_between t before input later ≡ Some (own_report gln (alone gln (items gln t before) t).1)
status_is_own gln t before later input here other asked =
    status_between gln t before input later here asked
    ∙ ap (λ rows. Some (own_report gln rows)) (whole_run gln before t here other).seen

parties_rise : (t : Tables) → HoldsRegister t → PartiesRise t
parties_rise t holds = record {
  hubs = subst (Rises hub_cmp) (sym holds.one_hub) (tt, tt);
  keys = holds.keys_rise;
  prefixes = holds.prefixes_rise;
}

pub under_rises : (suppliers : List SupplierRow) (t : Tables) → SoundUnder suppliers t → PartiesRise t → Rising t
under_rises suppliers t here parties =
    rising_from t parties (all_rise suppliers t here.free here.sound.rooted here.sound.kept)

pub sound_under : (t : Tables) → SoundHub t → SoundUnder (suppliers_of t) t × PartiesRise t
sound_under t here =
    (record { free = here.register.right.prefixes_free; sound = here.sound }, parties_rise t here.register)

pub sound_rises : (t : Tables) → SoundHub t → Rising t
sound_rises t here = under_rises (suppliers_of t) t (sound_under t here).0 (sound_under t here).1

view_rising : (gln : List ℕ) (suppliers : List SupplierRow) (t : Tables) → Sound suppliers t → PartiesRise t
    → Rising (view gln t)
view_rising gln suppliers t here parties =
    rising_from (view gln t) (parties_seen gln t parties) (view_rises gln t here.rooted.ordered (here.kept gln))

-- what is seen of sound tables depends only on the set of its rows
pub views_under : (gln : List ℕ) (suppliers others : List SupplierRow) (t u : Tables) → Sound suppliers t → PartiesRise t
    → Sound others u → PartiesRise u → SameRows (view gln t) (view gln u) → view gln t ≡ view gln u
views_under gln suppliers others t u here parties there others_parties rows =
    rows_are_one (view gln t) (view gln u) (view_rising gln suppliers t here parties)
    (view_rising gln others u there others_parties) rows

views_alike : (gln : List ℕ) (t u : Tables) → SoundHub t → SoundHub u → SameRows (view gln t) (view gln u) → view gln t ≡ view gln u
views_alike gln t u here there =
    views_under gln (suppliers_of t) (suppliers_of u) t u here.sound (sound_under t here).1 there.sound (sound_under u there).1

-- the items of a run are those of its first inputs, then those of the later ones
pub items_after : (gln : List ℕ) (t : Tables) (inputs later : Inputs)
    → items gln t (inputs ++ later) ≡ items gln t inputs ++ items gln (shared_run t inputs).1 later
items_after gln t [] later = refl
items_after gln t ((input, mark) ∷ inputs) later =
    let after = (shared_step t input mark).1 in
    ap (λ rest. items_of_input gln t input mark ++ rest) (items_after gln after inputs later)
    ∙ sym (append_assoc (items_of_input gln t input mark) (items gln after inputs) (items gln (shared_run after inputs).1 later))

-- beginnings of equal length of the same list are equal
fronts_alike : {X : Type 0} (a b c d : List X) → a ++ b ≡ c ++ d → length a ≡ length c → a ≡ c
fronts_alike a b c d joined counts = sym (take-append_seam a b) ∙ (λ i. take (counts i) (joined i)) ∙ take-append_seam c d

module _ (gln : List ℕ) (t u : Tables) (here : SoundHub t) (there : SoundHub u) (other : IsOther gln t)
    (parties : parties_in t ≡ parties_in u) (rows : SameRows (view gln t) (view gln u)) where
  other_too : IsOther gln u
  other_too is = other (is ∙ ap (λ (p : Parties). p.retailer) (sym parties))

  module _ (xs ys : Inputs) (same_items : items gln t xs ≡ items gln u ys) where
    same_alone : alone gln (items gln t xs) t ≡ alone gln (items gln u ys) u
    same_alone =
        let views = views_alike gln t u here there rows in
        λ i. fold (parties i) gln (same_items i) (views i)

    pub see_alike : view gln (shared_run t xs).1 ≡ view gln (shared_run u ys).1
    see_alike = (whole_run gln xs t here other).seen ∙ ap (λ end. end.1) same_alone ∙ sym (whole_run gln ys u there other_too).seen

    pub told_alike : replies_to gln xs (shared_run t xs).0 ≡ replies_to gln ys (shared_run u ys).0
    told_alike = (whole_run gln xs t here other).told ∙ ap (λ end. end.0) same_alone ∙ sym (whole_run gln ys u there other_too).told

  pub statuses_alike : (xs xs_later ys ys_later : Inputs) (x y : Input)
      → items gln t (xs ++ (x, Whole) ∷ xs_later) ≡ items gln u (ys ++ (y, Whole) ∷ ys_later)
      → length (items gln t xs) ≡ length (items gln u ys)
      → AsksStatus gln t x
      → AsksStatus gln u y
      → reply_between t xs x xs_later ≡ reply_between u ys y ys_later
  statuses_alike xs xs_later ys ys_later x y same_items counts asked too =
      let joined = sym (items_after gln t xs ((x, Whole) ∷ xs_later))
      ∙ same_items
      ∙ items_after gln u ys ((y, Whole) ∷ ys_later) in
      let so_far = fronts_alike (items gln t xs) (items gln (shared_run t xs).1 ((x, Whole) ∷ xs_later))
      (items gln u ys) (items gln (shared_run u ys).1 ((y, Whole) ∷ ys_later)) joined counts in
      status_between gln t xs x xs_later here asked
      ∙ ap (λ rows. Some (own_report gln rows)) (see_alike xs ys so_far)
      ∙ sym (status_between gln u ys y ys_later there too)
