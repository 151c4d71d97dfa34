-- Sources that count the bytes that are read from them.
use Rattle.std.specs.Prelude.{ℕ, List}

-- bytes, the number of looks at them, and the number of bytes read
pub record MeteredBytes : Type 0 where
  pub bytes : List ℕ
  pub looks : ℕ
  pub read : ℕ
