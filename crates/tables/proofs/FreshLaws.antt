-- Flat arrays of one state keep what tables ask.
use Rattle.std.proofs.Common.{◌≡◌, zero, suc, ◌+◌, true, [], ◌∷◌, length, vec_items, decimal, sym, ap, ◌∙◌, arith, lit<}
use Rattle.std.proofs.lemmas.Fmt.{decimal_digit}
use Rattle.std.proofs.lemmas.List.{length-map}
use Rattle.text.specs.Texts.{text_of}
use Rattle.flat.specs.declared.flat.Flat.{Flat}
use Rattle.flat.specs.Flats.{content, StartsOk, OffsetsOk}
use Rattle.flat.specs.Fresh.{FreshFlat, fresh_content}
use Rattle.tables.specs.Keeps.{keeps}

-- the digits of its two numbers
zero_digit : decimal 0 ≡ 48 ∷ []
zero_digit = decimal_digit 0 (lit< tt)

one_digit : decimal 1 ≡ 49 ∷ []
one_digit = decimal_digit 1 (lit< tt)

-- the content of one state is within the limits
fresh_keeps : keeps fresh_content ≡ true
fresh_keeps = rw (zero_digit, one_digit)

-- its text has 24 bytes
fresh_size : length (text_of fresh_content) ≡ 24
fresh_size = rw (zero_digit, one_digit)

-- its one state begins at choice 0, and choice 1 is past it
fresh_starts : StartsOk 1 2 (0 ∷ 1 ∷ [])
fresh_starts zero h = (omega arith, omega arith)
fresh_starts (suc s) h = absurd (omega arith)

-- its one choice begins at branch 0, and branch 1 is past it
fresh_offsets : OffsetsOk 1 (0 ∷ 1 ∷ [])
fresh_offsets zero h = (omega arith, omega arith)
fresh_offsets (suc k) h = absurd (omega arith)

module _ (f : Flat) (e : FreshFlat f) where
  -- there is one set of labels
  one_set : length (vec_items f.labels) ≡ 1
  one_set = sym (length-map (vec_items f.labels) (λ l. l.letters)) ∙ ap length e.labels

  -- they hold the fresh content
  pub fresh_is : content f ≡ fresh_content
  fresh_is = cc (e.denominator, e.labels, e.starts, e.offsets, e.branches)

  -- which is within the limits
  pub fresh_within : keeps (content f) ≡ true
  fresh_within = ap keeps fresh_is ∙ fresh_keeps

  -- `starts` has one entry more than there are states
  pub fresh_long : length (vec_items f.starts) ≡ length (vec_items f.labels) + 1
  fresh_long = ap length e.starts ∙ sym (ap (λ n. n + 1) one_set)

  -- the first choices rise
  pub fresh_rising : StartsOk (length (vec_items f.labels)) (length (vec_items f.offsets)) (vec_items f.starts)
  fresh_rising = simp (one_set, e.offsets, e.starts) fresh_starts

  -- the first branches rise
  pub fresh_spanned : OffsetsOk (length (vec_items f.branches)) (vec_items f.offsets)
  fresh_spanned = simp (e.branches, e.offsets) fresh_offsets

  -- the length of their text is that of the fresh text
  pub fresh_sized : 24 ≡ length (text_of (content f))
  fresh_sized = sym (ap (λ c. length (text_of c)) fresh_is ∙ fresh_size)
