-- Finds the segment that shows a fault of a message outside of its lines, by its number. UNH is number 1.
use Rattle.std.specs.Prelude.{ℕ, ◌+◌, ◌&&◌, if◌then◌else◌, List, drop, is_some, codes}
use Rattle.std.specs.List.{list_any}
use Rattle.edi_segments.specs.declared.segment.Segment.{Segment}
use Rattle.edi_messages.specs.Parts.{header, is_qualified, is_lin, is_uns}
use Rattle.edi_messages.specs.Header.{is_bgm, beginning, party}
use Rattle.edi_goods.specs.Parties.{has_buyer_or_none}
use Rattle.edi_places.specs.Counting.{first_place, second_or_first_place, once_place}

-- the other BGM if BGM follows UNH, or else the segment after UNH
abbrev pub beginning_place : List Segment → ℕ
beginning_place message =
    if is_bgm (beginning message) && list_any is_bgm (drop 2 message) then 2 + first_place is_bgm (drop 2 message) else 2

-- the second segment of a kind that has to come once in the header, or else the only one, or else UNH
abbrev pub header_place : List ℕ → List ℕ → List Segment → ℕ
header_place tag qualifier message = 1 + once_place (is_qualified tag qualifier) 0 (header message)

abbrev pub date_place : List Segment → ℕ
date_place message = header_place (codes "DTM") (codes "137") message

-- NAD of the buyer if it is wrong, or else NAD of the supplier
abbrev pub parties_place : List Segment → ℕ
parties_place message =
    if is_some (party (codes "BY") message) then header_place (codes "NAD") (codes "SU") message
    else header_place (codes "NAD") (codes "BY") message

-- in a message that may leave out the buyer
abbrev pub goods_parties_place : List Segment → ℕ
goods_parties_place message =
    if has_buyer_or_none message then header_place (codes "NAD") (codes "SU") message
    else header_place (codes "NAD") (codes "BY") message

abbrev pub reference_place : List Segment → ℕ
reference_place message = header_place (codes "RFF") (codes "ON") message

-- after the first UNS, whose number is given: another UNS, or else a LIN, or else the first UNS itself
abbrev pub behind_section : ℕ → List Segment → ℕ
behind_section first message =
    if list_any is_uns (drop first message) then first + first_place is_uns (drop first message)
    else second_or_first_place is_lin first message

-- UNH if there is no UNS
abbrev pub summary_place : List Segment → ℕ
summary_place message = if list_any is_uns message then behind_section (first_place is_uns message) message else 1

-- the second CNT with 6069 2, or else the only one
abbrev pub control_place : List Segment → ℕ
control_place message = once_place (is_qualified (codes "CNT") (codes "2")) 1 message
