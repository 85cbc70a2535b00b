-- Laws of parts. Assumes nothing.
use Rattle.std.proofs.Common.{◌≡◌, ℕ, ◌+◌, ◌-◌, ◌≤◌, min, List, length, take, drop, ap, ◌∙◌, arith}
use Rattle.std.proofs.lemmas.List.{length-take, length-drop, take-take, drop-take, drop-drop}
use Rattle.sources.specs.Source.{part}

pub length_part : (bs : List ℕ) (offset size : ℕ) → length (part bs offset size) ≡ min size (length bs - offset)
length_part bs offset size = length-take size (drop offset bs) ∙ ap (min size) (length-drop offset bs)

-- A part of a part is a part.
pub part-part : (bs : List ℕ) (start room offset size : ℕ) → offset + size ≤ room → part (part bs start room) offset size ≡ part bs (start + offset) size
part-part bs start room offset size h =
    ap (λ n. take size (drop offset (take n (drop start bs)))) (let e : room ≡ offset + (room - offset) = omega arith in e)
    ∙ ap (take size) (drop-take offset (room - offset) (drop start bs))
    ∙ take-take size (room - offset) (drop offset (drop start bs)) (omega arith)
    ∙ ap (take size) (drop-drop offset start bs)

-- both laws
pub ruleset parts = (part-part, length_part)
