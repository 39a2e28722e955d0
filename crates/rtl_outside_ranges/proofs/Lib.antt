mod Parts
mod Looking
