-- Records of one width, one after another. Assumes nothing.
use Rattle.std.proofs.Common.{◌≡◌, ℕ, ◌+◌, ◌*◌, ◌/◌, ◌<◌, ◌≤◌, List, length, take, drop, Some, None, Option, MatchOption, ap, ◌∙◌, div-lt_iff_lt-mul, le-div_iff_mul-le, add-mul, arith}
use Rattle.std.proofs.lemmas.List.{length-drop}
use Rattle.sources.specs.Source.{part}

-- What a cast of the bytes from the start of record `i` on says of that record.
pub cast_at : {X : Type 0} (stored : X → List ℕ) (r : Option X) (bs rest : List ℕ) (width i start : ℕ)
    → 0 < width → start ≡ i * width → start ≤ length bs → rest ≡ drop start bs
    → MatchOption r (length rest < width) (λ v. (stored v ≡ take width rest) × (width ≤ length rest))
    → MatchOption r (length bs / width ≤ i) (λ v. (stored v ≡ part bs (i * width) width) × (i < length bs / width))
cast_at stored None bs rest width i start some at le is short =
    let past : length bs / width < i + 1 = (div-lt_iff_lt-mul some).1 (omega (arith, ap length is, length-drop start bs, add-mul i 1 width)) in omega arith
cast_at stored (Some v) bs rest width i start some at le is h =
    let within : i + 1 ≤ length bs / width = (le-div_iff_mul-le some).1 (omega (arith, h.1, ap length is, length-drop start bs, add-mul i 1 width)) in
    (h.0 ∙ ap (take width) (is ∙ ap (λ n. drop n bs) at), omega arith)
