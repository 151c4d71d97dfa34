-- A value of 128 KiB as an element. The laws of `Element` cite these lemmas, and so they are in
-- specs.
use Rattle.std.proofs.Common.{◌≡◌, ℕ, List, length, refl, lit<}
use Rattle.std.specs.Prelude.{replicate}
use Rattle.vb_core.specs.Elements.{AreBytes, IsElement}
use Rattle.vb_gather_tests.specs.declared.wide.Wide.{Wide}

-- the value whose bytes these are
abbrev pub wide_of : List ℕ → Wide
wide_of bytes = record { bytes = bytes }

-- its bytes
abbrev pub wide_bytes : Wide → List ℕ
wide_bytes x = x.bytes

-- there are 131,072 of them, each below 256
abbrev pub IsWide : Wide → Type 0
IsWide x = (length x.bytes ≡ 131072) × AreBytes x.bytes

-- the value of bytes that are all 0
abbrev pub wide_zero : Wide
wide_zero = record { bytes = replicate 131072 0 }

-- the bytes of a value represent it
pub wide_laws : IsElement 131072 1 0 IsWide wide_bytes wide_of
wide_laws = record {
  size_is_positive = lit< tt;
  align_is_power = refl;
  align_in_range = lit< tt;
  align_divides_size = refl;
  form_has_size = λ x fits. fits.0;
  form_is_bytes = λ x fits. fits.1;
  get_after_put = λ x fits. refl;
  put_after_get = λ bytes len all. refl;
}
