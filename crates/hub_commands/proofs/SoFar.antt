-- An import up to some file.
use Rattle.std.proofs.Common.{◌≡◌, ◌≢◌, ◌⊎◌, ℕ, Bool, List, [], ◌∷◌, ◌++◌, Option, Some, None, Result, Ok, Err, refl, sym, ap, ◌∙◌}
use Rattle.std.proofs.Common.{subst, inl, inr}
use Rattle.std.specs.Prelude.{IfSome, max, fold}
use Rattle.std.specs.List.{AllByRecursion}
use Rattle.std.specs.Option.{unwrap_or}
use Rattle.std.proofs.KnownBytes.{Appends-nil, Appends-trans}
use Rattle.std.proofs.lemmas.Grind.{flat_map-append}
use Rattle.std.proofs.lemmas.List.{append-nil}
use Rattle.hub_requests.specs.declared.reply.Reply.{Reply}
use Rattle.hub_requests.specs.declared.request.Input.{Input}
use Rattle.edi_base.specs.declared.source.ReadFault.{ReadFault}
use Rattle.edi_base.specs.declared.source.ReadFault.TheVariants.{Read, Memory}
use Rattle.hub_commands.specs.Files.{Gave, FaultComesOf, GivenAs, GivesFile}
use Rattle.hub_commands.specs.Import.{Looked, Answered, Unread, NoMemory, Unprinted, ComesOf, TakesFiles, ImportGoesOn, ImportEnds}
use Rattle.hub_commands.specs.Import.{Imported, StillCome, WasGiven}
use Rattle.hub_commands.specs.Import.{uploads, replies, import_text, greatest, line_of, text_of, file_status}
use Rattle.hub_commands.specs.Import as looked_at
use Rattle.hub_commands.specs.Output.{Written}
use Rattle.hub_commands.specs.declared.files.NextFile.{NextFile}
use Rattle.hub_commands.specs.declared.files.NextFile.TheVariants.{Named, Unnamed}
use Rattle.hub_commands.proofs.Output.{written_then, written_as}

-- the known files are those that were looked at, and those that still come
pub record Taken {B : Type 0} (remaining : B → Option (List ℕ)) (broken : B → Type 0) (known rest : Option (List (NextFile B)))
    (looked : List Looked) : Type 0 where
  pub others : List (NextFile B)
  pub taken : IfSome known (λ files. TakesFiles remaining broken files looked others × (rest ≡ Some others))

-- the import goes on after all files that were looked at
pub record ImportSoFar {B : Type 0} (remaining : B → Option (List ℕ)) (broken : B → Type 0) (Runs : List Input → List Reply → Type 0)
    (asked : List ℕ → Input) (known rest : Option (List (NextFile B))) (old new : Option (List ℕ)) (failed after : Bool)
    (status : ℕ) : Type 0 where
  pub looked : List Looked
  pub files : Taken remaining broken known rest looked
  pub ran : Runs (uploads asked looked) (replies looked)
  pub go_on : AllByRecursion ImportGoesOn looked
  pub written : Written old new failed after (import_text looked)
  pub status_is : status ≡ greatest looked

-- one file more
all_more : (looked : List Looked) (one : Looked) → AllByRecursion ImportGoesOn looked → ImportGoesOn one
    → AllByRecursion ImportGoesOn (looked ++ one ∷ [])
all_more [] one all goes = (goes, tt)
all_more (first ∷ looked) one all goes = (all.0, all_more looked one all.1 goes)

text_more : (looked : List Looked) (one : Looked) → import_text looked ++ text_of one ≡ import_text (looked ++ one ∷ [])
text_more looked one =
    ap (λ (t : List ℕ). import_text looked ++ t) (sym (append-nil (text_of one)))
    ∙ sym (flat_map-append text_of looked (one ∷ []))

greatest_more : (status : ℕ) (looked : List Looked) (one : Looked)
    → max (fold (λ status one. max status (file_status one)) status looked) (file_status one)
    ≡ fold (λ status one. max status (file_status one)) status (looked ++ one ∷ [])
greatest_more status [] one = refl
greatest_more status (first ∷ looked) one = greatest_more (max status (file_status first)) looked one

-- facts of variants
ok_not_err : {X E : Type 0} (r : Result X E) (x : X) (fault : E) → r ≡ Ok x → r ≡ Err fault → ⊥
ok_not_err (Ok y) x fault is not = absurd cc
ok_not_err (Err e) x fault is not = absurd cc

read_not_memory : Read ≢ Memory
read_not_memory e = absurd cc

module _ {B : Type 0} (remaining : B → Option (List ℕ)) (broken : B → Type 0) where
  takes_more : (files : List (NextFile B)) (looked : List Looked) (file : NextFile B) (one : Looked) (others : List (NextFile B))
      → TakesFiles remaining broken files looked (file ∷ others)
      → ComesOf remaining broken file one
      → TakesFiles remaining broken files (looked ++ one ∷ []) others
  takes_more files [] file one others takes is =
      subst (λ (fs : List (NextFile B)). TakesFiles remaining broken fs (one ∷ []) others) (sym takes) (is, refl)
  takes_more [] (first ∷ looked) file one others takes is = absurd takes
  takes_more (f ∷ files) (first ∷ looked) file one others takes is = (takes.0, takes_more files looked file one others takes.1 is)

  -- what comes of a file as it is given, may come of the file
  source_is : {source given : Result B ReadFault} (bytes : List ℕ) → (given ≡ Err Memory) ⊎ (given ≡ source)
      → Gave remaining given bytes
      → Gave remaining source bytes
  source_is {source} {given} bytes (inl e) gave = absurd (ok_not_err given gave.0 Memory gave.1 e)
  source_is {source} {given} bytes (inr e) gave = subst (λ (s : Result B ReadFault). Gave remaining s bytes) e gave

  unread_is : {source given : Result B ReadFault} → (given ≡ Err Memory) ⊎ (given ≡ source) → FaultComesOf broken given Read
      → FaultComesOf broken source Read
  unread_is (inl e) comes = absurd (read_not_memory (subst (λ (s : Result B ReadFault). FaultComesOf broken s Read) e comes))
  unread_is (inr e) comes = subst (λ (s : Result B ReadFault). FaultComesOf broken s Read) e comes

  given_is : (file given : NextFile B) (one : Looked) → GivenAs file given → ComesOf remaining broken given one
      → ComesOf remaining broken file one
  given_is (Named file) (Named given) (Answered name bytes reply) like is = (sym like.0 ∙ is.0, source_is bytes like.1 is.1)
  given_is (Named file) (Named given) (Unread name) like is = (sym like.0 ∙ is.0, unread_is like.1 is.1)
  given_is (Named file) (Named given) looked_at.Unnamed like is = absurd cc
  given_is (Named file) (Named given) (NoMemory None) like is = tt
  given_is (Named file) (Named given) (NoMemory (Some name)) like is = sym like.0 ∙ is
  given_is (Named file) (Named given) (Unprinted name) like is = sym like.0 ∙ is
  given_is Unnamed Unnamed one like is = is
  given_is (Named file) Unnamed one like is = absurd like
  given_is Unnamed (Named given) one like is = absurd like

  -- what is given: none, a file, or want of memory
  pub gives_none : {E : Type 0} (known rest : Option (List (NextFile B))) (r : Result (Option (NextFile B)) E) (o : Option (NextFile B))
      → GivesFile known rest r → r ≡ Ok o → o ≡ None → IfSome known (λ files. (files ≡ []) × (rest ≡ Some []))
  gives_none {E} known rest r o gives is none =
      subst (λ (r : Result (Option (NextFile B)) E). GivesFile known rest r) (is ∙ ap (λ (o : Option (NextFile B)). Ok o) none) gives

  pub gives_file : {E : Type 0} (known rest : Option (List (NextFile B))) (r : Result (Option (NextFile B)) E) (o : Option (NextFile B))
      (given : NextFile B)
      → GivesFile known rest r → r ≡ Ok o → o ≡ Some given
      → IfSome known (λ files. (file : NextFile B) × (others : List (NextFile B)) × (files ≡ file ∷ others) × (rest ≡ Some others)
      × GivenAs file given)
  gives_file {E} known rest r o given gives is some =
      subst (λ (r : Result (Option (NextFile B)) E). GivesFile known rest r) (is ∙ ap (λ (o : Option (NextFile B)). Ok o) some) gives

  pub gives_fault : {E : Type 0} (known rest : Option (List (NextFile B))) (r : Result (Option (NextFile B)) E) (fault : E)
      → GivesFile known rest r → r ≡ Err fault
      → IfSome known (λ files. (file : NextFile B) × (others : List (NextFile B)) × (files ≡ file ∷ others))
  gives_fault {E} known rest r fault gives is = (subst (λ (r : Result (Option (NextFile B)) E). GivesFile known rest r) is gives).1

  pub gives_again : {E : Type 0} (known rest : Option (List (NextFile B))) (r : Result (Option (NextFile B)) E) (fault : E)
      → GivesFile known rest r → r ≡ Err fault → rest ≡ known
  gives_again {E} known rest r fault gives is =
      (subst (λ (r : Result (Option (NextFile B)) E). GivesFile known rest r) is gives).0

  -- the first of the files that still come is looked at
  pub taken_more : (known rest later : Option (List (NextFile B))) (looked : List Looked) (given : NextFile B) (one : Looked)
      → Taken remaining broken known rest looked
      → IfSome rest (λ files. (file : NextFile B) × (others : List (NextFile B)) × (files ≡ file ∷ others) × (later ≡ Some others)
      × GivenAs file given)
      → ComesOf remaining broken given one
      → Taken remaining broken known later (looked ++ one ∷ [])
  taken_more None rest later looked given one t gives is = record { others = []; taken = tt }
  taken_more (Some files) None later looked given one t gives is = absurd cc
  taken_more (Some files) (Some rest) later looked given one t gives is = record {
    others = gives.1;
    taken = (
      takes_more files looked gives.0 one gives.1
          (subst (λ (fs : List (NextFile B)). TakesFiles remaining broken files looked fs)
          (sym (ap (λ (r : Option (List (NextFile B))). unwrap_or r rest) t.taken.1) ∙ gives.2) t.taken.0)
          (given_is gives.0 given one gives.4 is),
      gives.3,
    );
  }

  -- memory gives out before the name of the next file is known
  pub taken_no_memory : (known rest left : Option (List (NextFile B))) (looked : List Looked)
      → Taken remaining broken known rest looked
      → IfSome rest (λ files. (file : NextFile B) × (others : List (NextFile B)) × (files ≡ file ∷ others))
      → left ≡ rest
      → (others : List (NextFile B)) × IfSome known (λ files. TakesFiles remaining broken files (looked ++ NoMemory None ∷ []) others)
      × IfSome known (λ files. StillCome remaining broken files looked (NoMemory None) others left)
  taken_no_memory None rest left looked t gives same = ([], tt, tt)
  taken_no_memory (Some files) None left looked t gives same = absurd cc
  taken_no_memory (Some files) (Some rest) left looked t gives same =
      let takes : TakesFiles remaining broken files looked (gives.0 ∷ gives.1) =
      subst (λ (fs : List (NextFile B)). TakesFiles remaining broken files looked fs)
      (sym (ap (λ (r : Option (List (NextFile B))). unwrap_or r rest) t.taken.1) ∙ gives.2) t.taken.0 in (
        gives.1,
        takes_more files looked gives.0 (NoMemory None) gives.1 takes tt,
        (gives.0, takes, same ∙ ap (λ (fs : List (NextFile B)). Some fs) gives.2),
      )

  pub taken_known : (known rest : Option (List (NextFile B))) (looked : List Looked) (t : Taken remaining broken known rest looked)
      → IfSome known (λ files. TakesFiles remaining broken files looked t.others)
  taken_known None rest looked t = tt
  taken_known (Some files) rest looked t = t.taken.0

  -- the rest still come behind a file that was given
  rest_come : (files : List (NextFile B)) (looked : List Looked) (one : Looked) (others : List (NextFile B))
      (left : Option (List (NextFile B)))
      → WasGiven one
      → left ≡ Some others
      → StillCome remaining broken files looked one others left
  rest_come files looked (Answered name bytes reply) others left given is = is
  rest_come files looked (Unread name) others left given is = is
  rest_come files looked looked_at.Unnamed others left given is = is
  rest_come files looked (NoMemory (Some name)) others left given is = is
  rest_come files looked (NoMemory None) others left given is = absurd given
  rest_come files looked (Unprinted name) others left given is = is

  pub still_known : (known left : Option (List (NextFile B))) (looked : List Looked) (one : Looked)
      (t : Taken remaining broken known left (looked ++ one ∷ []))
      → WasGiven one
      → IfSome known (λ files. StillCome remaining broken files looked one t.others left)
  still_known None left looked one t given = tt
  still_known (Some files) left looked one t given = rest_come files looked one t.others left given t.taken.1

  none_come : (known rest left : Option (List (NextFile B))) (looked : List Looked)
      → Taken remaining broken known rest looked
      → IfSome rest (λ files. (files ≡ []) × (left ≡ Some []))
      → IfSome known (λ files. left ≡ Some [])
  none_come None rest left looked t none = tt
  none_come (Some files) None left looked t none = absurd cc
  none_come (Some files) (Some rest) left looked t none = none.1

  none_left : (known rest left : Option (List (NextFile B))) (looked : List Looked)
      → Taken remaining broken known rest looked
      → IfSome rest (λ files. (files ≡ []) × (left ≡ Some []))
      → IfSome known (λ files. TakesFiles remaining broken files looked [])
  none_left None rest left looked t none = tt
  none_left (Some files) None left looked t none = absurd cc
  none_left (Some files) (Some rest) left looked t none =
      subst (λ (fs : List (NextFile B)). TakesFiles remaining broken files looked fs)
      (sym (ap (λ (r : Option (List (NextFile B))). unwrap_or r rest) t.taken.1) ∙ none.0) t.taken.0

  taken_none : (known : Option (List (NextFile B))) → Taken remaining broken known known []
  taken_none None = record { others = []; taken = tt }
  taken_none (Some files) = record { others = files; taken = (refl, refl) }

module _ {B : Type 0} (remaining : B → Option (List ℕ)) (broken : B → Type 0) (asked : List ℕ → Input)
    (known : Option (List (NextFile B))) (old : Option (List ℕ)) (failed : Bool) where
  -- no file was looked at
  pub so_far_none : (Runs : List Input → List Reply → Type 0) → Runs [] []
      → ImportSoFar remaining broken Runs asked known known old old failed failed 0
  so_far_none Runs ran = record {
    looked = [];
    files = taken_none remaining broken known;
    ran = ran;
    go_on = tt;
    written = record { bytes = Appends-nil old; flag = refl };
    status_is = refl;
  }

  -- all known files were looked at
  pub whole : (Runs : List Input → List Reply → Type 0) (rest left : Option (List (NextFile B))) (new : Option (List ℕ)) (after : Bool)
      (status : ℕ)
      → ImportSoFar remaining broken Runs asked known rest old new failed after status
      → IfSome rest (λ files. (files ≡ []) × (left ≡ Some []))
      → Imported remaining broken Runs asked known left old new failed after status
  whole Runs rest left new after status s none = record {
    looked = s.looked;
    rest = [];
    taken = none_left remaining broken known rest left s.looked s.files none;
    ran = s.ran;
    ended =
        inl (record {
          none_left = refl;
          none_come = none_come remaining broken known rest left s.looked s.files none;
          go_on = s.go_on;
          written = s.written;
          status_is = s.status_is;
        });
  }

  -- and then one file more, over a sink and with a status
  module _ (Runs After : List Input → List Reply → Type 0) (rest later : Option (List (NextFile B))) (between new : Option (List ℕ))
      (middle after : Bool) (status : ℕ) (s : ImportSoFar remaining broken Runs asked known rest old between failed middle status)
      (one : Looked)
      (ran : After (uploads asked (s.looked ++ one ∷ [])) (replies (s.looked ++ one ∷ []))) where
    pub so_far_more : Taken remaining broken known later (s.looked ++ one ∷ [])
        → ImportGoesOn one
        → Written between new middle after (text_of one)
        → (next given : ℕ) → next ≡ max status given
        → given ≡ file_status one
        → ImportSoFar remaining broken After asked known later old new failed after next
    so_far_more files goes written next given is given_is = record {
      looked = s.looked ++ one ∷ [];
      files = files;
      ran = ran;
      go_on = all_more s.looked one s.go_on goes;
      written = written_as (text_more s.looked one) (written_then s.written written);
      status_is =
          is
          ∙ ap (λ (n : ℕ). max status n) given_is
          ∙ ap (λ (n : ℕ). max n (file_status one)) s.status_is
          ∙ greatest_more 0 s.looked one;
    }

    ends_more : ImportEnds between new middle after [] one → ImportEnds old new failed after (import_text s.looked) one
    ends_more (inl stops) = inl (stops.0, written_then s.written stops.1)
    ends_more (inr broken) = inr (record {
      between = broken.between;
      written = Appends-trans old between broken.between (import_text s.looked) (line_of one) s.written.bytes broken.written;
      lost = broken.lost;
    })

    pub early : (left : Option (List (NextFile B))) (others : List (NextFile B))
        → IfSome known (λ files. TakesFiles remaining broken files (s.looked ++ one ∷ []) others)
        → IfSome known (λ files. StillCome remaining broken files s.looked one others left)
        → ImportEnds between new middle after [] one
        → Imported remaining broken After asked known left old new failed after 3
    early left others files still ends = record {
      looked = s.looked ++ one ∷ [];
      rest = others;
      taken = files;
      ran = ran;
      ended =
          inr (record {
            earlier = s.looked;
            last = one;
            are = refl;
            still = still;
            go_on = s.go_on;
            ends = ends_more ends;
            status_is = refl;
          });
    }
