-- Numbers, values and lines as text.
pub mod Bytes
pub mod Dec
pub mod Hex
pub mod Signed
pub mod Form
pub mod Many
pub mod Keys
pub mod Words
pub mod Ends
-- laws of these
pub mod DecLaws
pub mod HexLaws
pub mod FormLaws
pub mod LengthLaws
pub mod EndLaws
pub mod RunLaws
pub mod ManyLaws
pub mod KeyLaws
pub mod BehindLaws
pub mod Put
