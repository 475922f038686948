mod Common
mod Named
