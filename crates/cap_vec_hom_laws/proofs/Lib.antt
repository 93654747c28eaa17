pub mod HomLaws
