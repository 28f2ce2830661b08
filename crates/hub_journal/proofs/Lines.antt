-- Shows the parts of a line, and that all of them fit.
use Rattle.std.proofs.Common.{◌≡◌, ℕ, ◌+◌, ◌≤◌, ◌==◌, Bool, true, false, List, [], ◌++◌}
use Rattle.std.proofs.Common.{length, take, codes, Option, Some, None, if◌then◌else◌, nat_le, nat_lt, refl, ◌∙◌, arith}
use Rattle.std.proofs.lemmas.List.{length-append, length-take}
use Rattle.std.proofs.lemmas.Bool.{leb-true}
use Rattle.edi_moment.specs.Moment.{day_of}
use Rattle.hub_journal.proofs.Kept.{keep_all, then_keep}
use Rattle.hub_journal.specs.Front.{kept, room}
use Rattle.hub_journal.specs.Line.{moment_text, reply_text, request_text, spaced}
use Rattle.hub_journal.specs.Moment.{century, date_of, rfc3339, time_of, year_2000}
use Rattle.hub_journal.specs.Reply.{cut, longest_reply, reply_in, shown, without_end, body_in}
use Rattle.hub_journal.specs.Request.{MethodAndTarget, is_told}

pub spaced_some : (text : List ℕ) → (length text == 0) ≡ false → spaced text ≡ codes " " ++ text
spaced_some text some = rw some refl

pub spaced_none : (text : List ℕ) → (length text == 0) ≡ true → spaced text ≡ []
spaced_none text none = rw none refl

pub reply_told : (request : MethodAndTarget) (sent : List ℕ) → is_told request ≡ true
    → reply_text (Some request) sent ≡ spaced (reply_in sent)
reply_told request sent told = rw told refl

pub reply_untold : (request : MethodAndTarget) (sent : List ℕ) → is_told request ≡ false → reply_text (Some request) sent ≡ []
reply_untold request sent untold = rw untold refl

-- the greatest length of each part

century_length : (early : Bool) → length (if early then codes "19" else codes "20") ≡ 2
century_length true = refl
century_length false = refl

rfc3339_length : (moment : ℕ) → length (rfc3339 moment) ≡ 20
unfolding rfc3339
rfc3339_length moment =
    let day = day_of moment in
    let time = codes "T" ++ (time_of moment ++ codes "Z") in
    omega (
      arith,
      length-append (date_of (century moment) day) time,
      length-append (century moment) (date_of [] day),
      century_length (nat_lt moment year_2000),
    )

pub moment_within : (moment : Option ℕ) → length (moment_text moment) ≤ 20
moment_within None = omega arith
moment_within (Some moment) = omega (arith, rfc3339_length moment)

pub request_within : (request : Option MethodAndTarget) → length (request_text request) ≤ 200
request_within None = omega arith
request_within (Some (method, target)) = omega (arith, length-take 200 (shown method ++ (codes " " ++ shown target)))

cut_if : (short : Bool) (text : List ℕ) → nat_le (length text) longest_reply ≡ short
    → length (if short then text else take longest_reply text ++ codes "..") ≤ 2002
cut_if true text is = omega (arith, leb-true (length text) longest_reply is)
cut_if false text is =
    omega (arith, length-append (take longest_reply text) (codes ".."), length-take longest_reply text)

cut_within : (text : List ℕ) → length (cut text) ≤ 2002
unfolding cut
cut_within text = cut_if (nat_le (length text) longest_reply) text refl

spaced_if : (empty : Bool) (text : List ℕ) → length (if empty then [] else codes " " ++ text) ≤ 1 + length text
spaced_if true text = omega arith
spaced_if false text = omega arith

spaced_within : (text : List ℕ) → length (spaced text) ≤ 1 + length text
spaced_within text = spaced_if (length text == 0) text

reply_in_within : (sent : List ℕ) → length (reply_in sent) ≤ 2002
unfolding reply_in
reply_in_within sent = cut_within (shown (without_end (body_in sent)))

told_within : (told : Bool) (sent : List ℕ) → length (if told then spaced (reply_in sent) else []) ≤ 2003
told_within true sent = omega (arith, spaced_within (reply_in sent), reply_in_within sent)
told_within false sent = omega arith

pub reply_within : (request : Option MethodAndTarget) (sent : List ℕ) → length (reply_text request sent) ≤ 2003
reply_within None sent = omega arith
reply_within (Some request) sent = told_within (is_told request) sent

-- nine texts that are kept one after another, if there is room for all
pub nine_kept : (a b c d e f g h i : List ℕ) (k1 k2 k3 k4 k5 k6 k7 k8 k9 : List ℕ)
    → k1 ≡ kept [] a → k2 ≡ kept k1 b → k3 ≡ kept k2 c → k4 ≡ kept k3 d → k5 ≡ kept k4 e → k6 ≡ kept k5 f
    → k7 ≡ kept k6 g → k8 ≡ kept k7 h → k9 ≡ kept k8 i
    → length (a ++ (b ++ (c ++ (d ++ (e ++ (f ++ (g ++ (h ++ i)))))))) ≤ room
    → k9 ≡ a ++ (b ++ (c ++ (d ++ (e ++ (f ++ (g ++ (h ++ i)))))))
nine_kept a b c d e f g h i k1 k2 k3 k4 k5 k6 k7 k8 k9 e1 e2 e3 e4 e5 e6 e7 e8 e9 within =
    let from7 = then_keep k7 h k8 i k9 e8 e9 in
    let from6 = then_keep k6 g k7 (h ++ i) k9 e7 from7 in
    let from5 = then_keep k5 f k6 (g ++ (h ++ i)) k9 e6 from6 in
    let from4 = then_keep k4 e k5 (f ++ (g ++ (h ++ i))) k9 e5 from5 in
    let from3 = then_keep k3 d k4 (e ++ (f ++ (g ++ (h ++ i)))) k9 e4 from4 in
    let from2 = then_keep k2 c k3 (d ++ (e ++ (f ++ (g ++ (h ++ i))))) k9 e3 from3 in
    let from1 = then_keep k1 b k2 (c ++ (d ++ (e ++ (f ++ (g ++ (h ++ i)))))) k9 e2 from2 in
    let all = then_keep [] a k1 (b ++ (c ++ (d ++ (e ++ (f ++ (g ++ (h ++ i))))))) k9 e1 from1 in
    let text = a ++ (b ++ (c ++ (d ++ (e ++ (f ++ (g ++ (h ++ i))))))) in
    all ∙ keep_all [] text (omega (arith, within))

-- the nine parts of a line
pub nine_within : (m n r o p : List ℕ) → length m ≤ 20 → length n ≤ 40 → length r ≤ 200 → length o ≤ 40 → length p ≤ 2003
    → length (m ++ (codes " " ++ (n ++ (codes " " ++ (r ++ (codes " " ++ (o ++ (p ++ codes "\n")))))))) ≤ room
nine_within m n r o p hm hn hr ho hp =
    let end = p ++ codes "\n" in
    let last = codes " " ++ (o ++ end) in
    let more = codes " " ++ (r ++ last) in
    let rest = codes " " ++ (n ++ more) in
    omega (
      arith,
      hm,
      hn,
      hr,
      ho,
      hp,
      length-append m rest,
      length-append n more,
      length-append r last,
      length-append o end,
      length-append p (codes "\n"),
    )
