-- Small bodies and netlists on which the definitions are tried. In order of reading:
pub mod Bodies
pub mod Circuits
pub mod Counter
pub mod Toggling
pub mod Rows
pub mod BodyMistakes
pub mod Looking
pub mod SimulationMistakes
pub mod Variables
pub mod Nets
pub mod ByNets
pub mod Resets
pub mod Listing
-- Small trees and designs on which the definitions are tried. In order of reading:
pub mod rules
pub mod designs
